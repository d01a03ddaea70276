use Rattle.std.proofs.Common.{◌≡◌, ◌++◌, drop}
use Rattle.ixp_lang.specs.Texts.{all_sent_text}
use Rattle.ixp_lang.proofs.text.put_all_sent.Given as goal

abbrev pub invariant-each : goal.invariant-each
invariant-each l = l.out.items ++ all_sent_text (drop l.session-index l.sent) ≡ l.fn.out.items ++ all_sent_text l.sent
