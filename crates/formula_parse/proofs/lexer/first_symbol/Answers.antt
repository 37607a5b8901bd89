use Rattle.std.proofs.Common.{rules}
use Rattle.formula_parse.proofs.Symbols.{stream-symbol}
use Rattle.formula_parse.proofs.lexer.first_symbol.Goals as goal

pub returns : goal.returns
returns c = search (rules, stream-symbol c.args.text.now)
