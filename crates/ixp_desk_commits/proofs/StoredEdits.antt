-- An edit that is stored.
use Rattle.std.proofs.Common.{◌≡◌, inl, inr, ◌<◌, ◌-◌, ◌^◌, List, Option, Some, None, sym, ap, subst, ◌∙◌}
use Rattle.ixp_io.specs.declared.keeper.Change.{Change}
use Rattle.ixp_io.specs.Tables.{Table, changed}
use Rattle.ixp_io.specs.Told.{Told, WhereTold}
use Rattle.ixp_machine_steps.specs.Openings.{first_state}
use Rattle.ixp_machine_steps.specs.declared.state.Entry.{Entry}
use Rattle.ixp_machine_steps.specs.declared.state.State.{State}
use Rattle.ixp_machine_steps.specs.States.{ValidState}
use Rattle.ixp_machine_steps.specs.Steps.{Accepted, verdict}
use Rattle.ixp_machine_steps.proofs.Staying.{still_a_state}
use Rattle.ixp_machine.specs.declared.preparing.Prepared.{Prepared}
use Rattle.ixp_machine.specs.Prepared.{prepared}
use Rattle.ixp_store_rows.specs.States.{tables}
use Rattle.ixp_store_words.specs.Answers.{IsStoreOf, empty_registry}
use Rattle.ixp_store_words.specs.Storing.{IsStorable}
use Rattle.ixp_store_words.proofs.KeepStorable.{still_storable}
use Rattle.ixp_desk_commits.specs.Ready.{IsReady}

-- the state after it is valid
pub next_valid : (s : State) (p : Prepared) → ValidState s → IsReady s p → ValidState (prepared s p)
next_valid s p valid ready = subst ValidState (sym ready.makes) (still_a_state s ready.entry valid ready.lawful)

-- and can be stored
pub next_storable : (s : State) (p : Prepared) → ValidState s → IsStorable s → IsReady s p → s.accepted < 2 ^ 64 - 1
    → IsStorable (prepared s p)
next_storable s p valid stores ready room =
    subst IsStorable (sym ready.makes) (still_storable s ready.entry valid stores ready.lawful room)

-- no edit of a registry without rows is accepted, since it has no API key
refuses_all : (s : State) (e : Entry) → s ≡ first_state empty_registry → verdict s e ≡ Accepted → ⊥
refuses_all s e is h =
    let said : verdict (first_state empty_registry) e ≡ Accepted = subst (λ (x : State). verdict x e ≡ Accepted) is h in cc

rows_next : (s : State) (p : Prepared) (batch : List Change) (rows now : Table) → IsReady s p → IsStoreOf s rows
    → now ≡ changed rows batch → changed (tables s) batch ≡ tables (prepared s p) → IsStoreOf (prepared s p) now
rows_next s p batch rows now ready (inl is) made makes = inl (made ∙ (ap (λ t. changed t batch) is ∙ makes))
rows_next s p batch rows now ready (inr none) made makes = absurd (refuses_all s ready.entry none.1 ready.accepted)

-- the store's rows are the next state's
pub stored_next : (s : State) (p : Prepared) (batch : List Change) (t now : Option Table) → IsReady s p
    → WhereTold t (IsStoreOf s) → Told t now (λ before after. after ≡ changed before batch)
    → changed (tables s) batch ≡ tables (prepared s p) → WhereTold now (IsStoreOf (prepared s p))
stored_next s p batch None None ready stored made makes = tt
stored_next s p batch None (Some now) ready stored made makes = absurd made
stored_next s p batch (Some rows) None ready stored made makes = tt
stored_next s p batch (Some rows) (Some now) ready stored made makes = rows_next s p batch rows now ready stored made makes

pub ruleset kept = (next_valid, next_storable, stored_next)
