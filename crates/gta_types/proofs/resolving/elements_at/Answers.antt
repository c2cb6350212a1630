use Rattle.std.proofs.Common.{◌∙◌, arith}
use Rattle.gta_types.proofs.Tables.{elements_in-at, elements_in-past, few_elements}
use Rattle.gta_types.proofs.resolving.elements_at.Goals as goal

pub returns-then-number-len-clause-elements : goal.returns-then-number-len-clause-elements
returns-then-number-len-clause-elements c name number =
    elements_in-past c.args.lists.now.tables.items name (omega arith)

pub returns-clause-few : goal.returns-clause-few
returns-clause-few c =
    let lists = c.args.lists.now in
    rw c.as_slice.ensures.value
    (few_elements lists.tables.items c.args.number c.index.result.now lists.tables_within (omega arith) c.index.ensures)

pub returns-clause-elements : goal.returns-clause-elements
returns-clause-elements c name number =
    c.as_slice.ensures.value
    ∙ elements_in-at c.args.lists.now.tables.items name c.args.number c.index.result.now number (omega arith)
    c.index.ensures
