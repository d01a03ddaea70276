use Rattle.std.proofs.Common.{◌≡◌, false, List, [], None, IfOk, map, subst}
use Rattle.ixp_io.specs.Tables.{row_entry}
use Rattle.ixp_io.specs.declared.keeper.Row.{Row}
use Rattle.ixp_num_tables.specs.Tables.{Ascends}
use Rattle.ixp_machine_steps.specs.Openings.{first_state}
use Rattle.ixp_store_words.specs.Answers.{IsLoaded, empty_registry}
use Rattle.ixp_store_words.specs.Opening.{AreAllRows, IsFirstOrOf, SaysVersion, entry_name, is_old}
use Rattle.ixp_store_damage.specs.Walking.{LoadTellsWrong}
use Rattle.ixp_store_damage.proofs.VersionRow.{answer_told, version_told}
use Rattle.ixp_store_damage.proofs.WholeStates.{damage_told, state_loaded, none_loaded}
use Rattle.ixp_store_load.proofs.opened.load.Goals as goal

pub returns-clause-state : goal.returns-clause-state
returns-clause-state g c =
    answer_told _ c.in_ok-rows.rows.items c.in_ok-rows.beyond c.opened.result c.in_ok-rows.ensures.all c.opened.ensures.whole
    (subst (λ (rs : List Row). IfOk c.opened.result (λ s. IsFirstOrOf s rs)) c.as_slice.ensures.value c.opened.ensures.state)

pub returns-clause-version : goal.returns-clause-version
returns-clause-version g c =
    version_told _ c.in_ok-rows.rows.items c.in_ok-rows.beyond c.opened.result c.in_ok-rows.ensures.front c.in_ok-rows.ensures.all c.in_ok-rows.ensures.some
    (subst (λ (rs : List Row). SaysVersion c.opened.result rs) c.as_slice.ensures.value c.opened.ensures.version)

pub returns-clause-complete : goal.returns-clause-complete
returns-clause-complete g c = λ s v stores is.
    state_loaded _ c.in_ok-rows.rows.items c.in_ok-rows.beyond c.opened.result s v stores is c.in_ok-rows.ensures.front c.in_ok-rows.ensures.all c.in_ok-rows.ensures.many
    (subst (λ (rs : List Row). AreAllRows s (map row_entry rs) → is_old rs ≡ false → c.in_ok-rows.beyond ≡ None → IsLoaded s c.opened.result) c.as_slice.ensures.value (c.opened.ensures.complete s v stores))

pub returns-clause-nothing : goal.returns-clause-nothing
returns-clause-nothing g c = λ is.
    none_loaded _ c.in_ok-rows.rows.items c.in_ok-rows.beyond c.opened.result is c.in_ok-rows.ensures.all c.in_ok-rows.ensures.many
    (subst (λ (rs : List Row). rs ≡ [] → c.in_ok-rows.beyond ≡ None → IsLoaded (first_state empty_registry) c.opened.result) c.as_slice.ensures.value c.opened.ensures.nothing)

pub returns-clause-damage : goal.returns-clause-damage
returns-clause-damage g c =
    damage_told _ c.in_ok-rows.rows.items c.in_ok-rows.beyond c.opened.result c.in_ok-rows.ensures.all c.in_ok-rows.ensures.beyond c.in_ok-rows.ensures.most (returns-clause-complete g c)
    (subst (λ (rs : List Row). Ascends entry_name (map row_entry rs) → c.in_ok-rows.beyond ≡ None → LoadTellsWrong (map row_entry rs) c.opened.result) c.as_slice.ensures.value c.opened.ensures.damage) c.opened.ensures.last
