use Rattle.std.proofs.Common.{◌≡◌, true, map, take}
use Rattle.std.specs.List.{list_all}
use Rattle.spec_tables.specs.Tables.{is_one_of, number_of}
use Rattle.spec_tables.proofs.numbers.numbers_in.Given as goal

abbrev pub invariant-loop-product : goal.invariant-loop-product
invariant-loop-product l = record {
  so_far : l.numbers.items ≡ map (number_of l.elements) (take l.product-index l.products);
  elements : list_all (is_one_of l.elements) (take l.product-index l.products) ≡ true;
}
