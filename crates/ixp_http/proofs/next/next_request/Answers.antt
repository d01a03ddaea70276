use Rattle.std.proofs.Common.{◌≡◌, ◌≤◌, ◌+◌, ◌++◌, ◌∙◌, ℕ, List, length, refl, sym, subst}
use Rattle.std.proofs.lemmas.Result.{err_from_is_err_and}
use Rattle.ixp_http.specs.declared.head.Start.{Start}
use Rattle.ixp_http.specs.declared.head.Start.TheVariants.{Headed}
use Rattle.ixp_io.specs.Told.{WhereTold}
use Rattle.ixp_http.specs.Answers.{HoldsOneRead}
use Rattle.ixp_http.specs.Heads.{chunk, start_of}
use Rattle.ixp_http.specs.Messages.{Begins, First, bad, cut, message}
use Rattle.ixp_http.proofs.Held.{message_settled}
use Rattle.ixp_http.proofs.Starts.{placed}
use Rattle.ixp_http.proofs.Bodies.{first_plain, first_headed}
use Rattle.ixp_http.proofs.Together.{leaves_err, leaves_headed}
use Rattle.ixp_http.proofs.next.next_request.Goals as goal

pub with_head-requires : goal.with_head-requires
with_head-requires g c =
    let is : start_of c.fill_head.new.buf ≡ Headed c.in-Headed.from c.in-Headed.len = sym c.in_ok-start.ensures.start ∙ c.in-Headed.is in
    record { placed = placed c.fill_head.new.buf c.in-Headed.from c.in-Headed.len is }

pub returns-in-Over-clause-answers : goal.returns-in-Over-clause-answers
returns-in-Over-clause-answers g c =
    first_plain _ _ _ _ _ _ c.in_ok-start.ensures.together c.in_ok-start.ensures.settled
    λ bytes. subst (λ (s : Start). Begins bytes s (bad 431)) (sym c.in-Over.is) refl

pub returns-in-Inside-clause-answers : goal.returns-in-Inside-clause-answers
returns-in-Inside-clause-answers g c =
    first_plain _ _ _ _ _ _ c.in_ok-start.ensures.together c.in_ok-start.ensures.settled
    λ bytes. subst (λ (s : Start). Begins bytes s cut) (sym c.in-Inside.is) refl

pub returns-in-Headed-clause-answers : goal.returns-in-Headed-clause-answers
returns-in-Headed-clause-answers g c =
    let told = g.L.Stream in
    first_headed (told.left c.args.link.now) (told.left c.fill_head.new.link) (told.left c.with_head.new.link) c.args.buf.now c.fill_head.new.buf
    c.with_head.new.buf c.in-Headed.from c.in-Headed.len c.with_head.result c.in_ok-start.ensures.together
    (subst (λ (s : Start). WhereTold (told.left c.fill_head.new.link) (λ rest. start_of (c.fill_head.new.buf ++ rest) ≡ s)) c.in-Headed.is
    c.in_ok-start.ensures.settled)
    c.with_head.ensures.answers

pub returns-in_err-start-clause-still : goal.returns-in_err-start-clause-still
returns-in_err-start-clause-still g c r rest first = c.fill_head.ensures.still (message_settled c.args.buf.now r rest first)

pub returns-in-Over-clause-still : goal.returns-in-Over-clause-still
returns-in-Over-clause-still g c r rest first = c.fill_head.ensures.still (message_settled c.args.buf.now r rest first)

pub returns-in-Between-clause-still : goal.returns-in-Between-clause-still
returns-in-Between-clause-still g c r rest first = c.fill_head.ensures.still (message_settled c.args.buf.now r rest first)

pub returns-in-Inside-clause-still : goal.returns-in-Inside-clause-still
returns-in-Inside-clause-still g c r rest first = c.fill_head.ensures.still (message_settled c.args.buf.now r rest first)

pub returns-in-Headed-clause-still : goal.returns-in-Headed-clause-still
returns-in-Headed-clause-still g c r rest first =
    let settled = message_settled c.args.buf.now r rest first in
    let is : start_of c.fill_head.new.buf ≡ Headed c.in-Headed.from c.in-Headed.len = sym c.in_ok-start.ensures.start ∙ c.in-Headed.is in
    c.with_head.ensures.still r rest
    (subst (λ (s : Start). Begins c.fill_head.new.buf s (message r rest)) is
    (subst (λ (b : List ℕ). First b (message r rest)) (sym (c.fill_head.ensures.same settled)) first))
    ∙ c.fill_head.ensures.still settled

pub returns-in_err-start-clause-leaves : goal.returns-in_err-start-clause-leaves
returns-in_err-start-clause-leaves g c =
    let p = err_from_is_err_and c.from_residual.result c.from_residual.ensures.1 in
    leaves_err _ _ _ _ c.from_residual.result p.0 p.1 c.fill_head.ensures.taken

pub returns-in-Headed-clause-leaves : goal.returns-in-Headed-clause-leaves
returns-in-Headed-clause-leaves g c =
    let told = g.L.Stream in
    let is : start_of c.fill_head.new.buf ≡ Headed c.in-Headed.from c.in-Headed.len = sym c.in_ok-start.ensures.start ∙ c.in-Headed.is in
    let one : length c.args.buf.now ≤ chunk → length c.fill_head.new.buf ≤ (c.in-Headed.from + c.in-Headed.len) + chunk =
    λ few. subst (λ (s : Start). HoldsOneRead s c.fill_head.new.buf) is (c.in_ok-start.ensures.rest few) in
    leaves_headed (c.in-Headed.from + c.in-Headed.len) (told.left c.args.link.now) (told.left c.fill_head.new.link) (told.left c.with_head.new.link)
    c.args.buf.now c.fill_head.new.buf c.with_head.new.buf c.with_head.result c.in_ok-start.ensures.together one c.fill_head.ensures.bounded
    c.with_head.ensures.leaves
