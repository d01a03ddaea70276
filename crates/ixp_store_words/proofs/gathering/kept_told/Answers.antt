use Rattle.std.proofs.Common.{rules, ◌≡◌, List, Some, IsTrue, sym, subst, ◌∙◌}
use Rattle.ixp_machine_steps.specs.declared.kept.KeptOwner.{KeptOwner}
use Rattle.ixp_store_words.specs.Storing.{AreStorable}
use Rattle.ixp_store_words.proofs.StorableStates.{kept_of_storable}
use Rattle.ixp_store_words.proofs.gathering.kept_told.Goals as goal

-- what is kept of a state that may be stored passes
pub returns-then-not-are_storable-clause-complete : goal.returns-then-not-are_storable-clause-complete
returns-then-not-are_storable-clause-complete c s valid stores counted rows =
    let found = c.in_ok-kept.ensures s valid stores rows in
    let is : c.in-Some.kept ≡ s.kept = let both = sym c.in-Some.is ∙ found in cc in
    let storable : AreStorable c.as_slice-in-Some.result.now =
    subst AreStorable (sym (c.as_slice-in-Some.ensures.rows ∙ is)) (kept_of_storable s stores) in
    let passes : IsTrue c.are_storable.result = c.are_storable.ensures.1 storable in
    absurd (let bad : ⊥ = cc (passes, c.if-not-are_storable.true) in bad)
