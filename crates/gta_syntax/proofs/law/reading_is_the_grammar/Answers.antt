use Rattle.gta_syntax.proofs.Readings.{gives_texts, gives_refusals}
use Rattle.gta_syntax.proofs.law.reading_is_the_grammar.Goals as goal

pub returns-clause-specifications : goal.returns-clause-specifications
returns-clause-specifications c = gives_texts

pub returns-clause-refusals : goal.returns-clause-refusals
returns-clause-refusals c = gives_refusals
