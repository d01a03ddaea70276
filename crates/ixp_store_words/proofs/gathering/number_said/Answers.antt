use Rattle.std.proofs.Common.{◌≡◌, ◌<◌, ◌^◌, ℕ, sym, ap, ◌∙◌, arith}
use Rattle.ixp_rows_lines.proofs.Spelling.{some_is}
use Rattle.ixp_registry.specs.declared.edit_kind.EditKind.{EditKind}
use Rattle.ixp_registry.specs.declared.members.Owner.{Owner}
use Rattle.ixp_machine_steps.specs.declared.subject.Subject.{Subject}
use Rattle.ixp_store_rows.specs.Names.{Entry, kept_name, kept_body}
use Rattle.ixp_store_words.proofs.Gathered.{same_said}
use Rattle.ixp_store_words.proofs.gathering.number_said.Goals as goal

pub returns-in-Some-2-clause-told : goal.returns-in-Some-2-clause-told
returns-in-Some-2-clause-told c = λ w k small subject place is.
    let low = k.small in
    let few : k.number < 2 ^ 64 = omega (arith, low) in
    let key : c.as_slice.result.now ≡ (kept_name w k.number).key = c.as_slice.ensures ∙ ap (λ (e : Entry). e.0.key) is in
    let body : c.as_slice-2.result.now ≡ kept_body k = c.as_slice-2.ensures ∙ ap (λ (e : Entry). e.1) is in
    let named : ◌≡◌ {A = Owner × ℕ} (c.in-Some.owner, c.in-Some.number) (w, k.number) = some_is _ _ (sym c.in-Some.is ∙ c.numbered_of.ensures w k.number small few key) in
    let said : ◌≡◌ {A = EditKind × Subject × ℕ} (c.in-Some-2.kind, c.in-Some-2.subject, c.in-Some-2.place) (k.kind, k.subject, k.place) =
    some_is _ _ (sym c.in-Some-2.is ∙ c.in_ok-kind.ensures.told k subject place body) in
    same_said w k c.in-Some.owner c.in-Some.number c.in-Some-2.kind c.in-Some-2.subject c.in-Some-2.place c.result-1.given.0 named said
