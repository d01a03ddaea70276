use Rattle.std.proofs.Common.{List, ℕ, [], Result, OnErr, Ok, Err, sym, append-nil}
use Rattle.ixp_num.specs.Printing.{Grown}
use Rattle.ixp_num.proofs.print.append_text6.Goals as goal

unchanged : {A E : Type 0} (r : Result A E) (xs : List ℕ) → OnErr r (Grown xs xs)
unchanged (Ok a) xs = tt
unchanged (Err e) xs = ([], sym (append-nil xs))

pub returns-in_err-text-clause-err : goal.returns-in_err-text-clause-err
returns-in_err-text-clause-err c = unchanged c.from_residual.result c.args.out.now.items
