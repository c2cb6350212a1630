-- What the tokens of a source say in its version.
use Rattle.std.specs.Prelude.{List}
use Rattle.gta_text.specs.declared.token.Token.{Token}
use Rattle.gta_spec.specs.Symbols.{Symbol, symbols}
use Rattle.gta_syntax.specs.declared.source.Source.{Source}

abbrev pub symbols_in : Source → List Token → List Symbol
symbols_in source tokens = symbols source.version source.bytes.now tokens
