use Rattle.gta_spec.specs.Parts.{spec_tree}
use Rattle.gta_canonical.proofs.ReadBack.{reads_back}
use Rattle.gta_canonical.proofs.showing.show_spec.Goals as goal

pub returns : goal.returns
returns c = record {
  text = c.text_of.ensures;
  reads_back = reads_back (λ text. text.items) (spec_tree c.args.spec.now) c.requires c.text_of.result
      c.text_of.ensures;
}
