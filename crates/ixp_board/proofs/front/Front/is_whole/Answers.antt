use Rattle.std.proofs.Common.{◌≡◌, ap, arith}
use Rattle.std.proofs.lemmas.Bool.Decides.{nat_tests}
use mathlib.Core.List.{IsPrefix}
use Rattle.ixp_board.proofs.Beginnings.{begins_through}
use Rattle.ixp_board.proofs.Entries.{all_are_whole}
use Rattle.ixp_board.proofs.front.Front.is_whole.Goals as goal

pub returns : goal.returns
returns g c = λ yes.
    let mine = c.self.inside.seen.log in
    let other = c.other.inside.seen.log in
    let both = c.learn.new.self.log in
    let all = c.load.new.seen.log in
    let told = c.load.ensures.6.1 in
    let before : IsPrefix mine both = rw (← ap (λ s. s.log) c.again-both.ensures) c.learn.ensures.2 in
    let begins : IsPrefix mine all = begins_through mine both all before c.load.ensures.5 in
    let whole : mine ≡ all = all_are_whole g.S.Story.legal mine all c.self.invariant.1 told.0 begins (grind (arith, nat_tests, told.1, c.self.invariant.0)) in
    rw (← c.self.view_is, ← c.other.view_is, whole) (begins_through other both all c.learn.ensures.3 c.load.ensures.5)
