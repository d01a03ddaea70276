use Rattle.std.proofs.Common.{◌≡◌, ◌++◌, drop}
use Rattle.ixp_explain.specs.Texts.{asks_text}
use Rattle.ixp_explain.proofs.print.put_asks.Given as goal

abbrev pub invariant-each : goal.invariant-each
invariant-each l = l.out.items ++ asks_text (drop l.ask-index l.asks) ≡ l.fn.out.items ++ asks_text l.asks
