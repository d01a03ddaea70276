use Rattle.std.proofs.Common.{rules, ◌≡◌, ℕ, ◌<◌, Ok, None, List, length, get_or, set, sym, subst, ap, ◌∙◌}
use Rattle.ixp_registry.specs.Words.{owner_numbers}
use Rattle.ixp_num_tables.specs.Tables.{Ascends, find, place, put}
use Rattle.ixp_machine_steps.specs.declared.kept.KeptOwner.{KeptOwner}
use Rattle.ixp_machine_steps.specs.Kept.{kept_key, kept_owner_key, kept_of}
use Rattle.ixp_machine.proofs.InPlace.{of_owner, set_is_put, key_kept, ascends_now, noted_now}
use Rattle.ixp_machine.proofs.keeping.carry.Goals as goal

pub carry_known-outcome-requires : goal.carry_known-outcome-requires
carry_known-outcome-requires g c =
    let ks = c.args.kept.now in
    let owner = c.args.prepared.owner in
    let row = c.index_mut.result.now in
    let up : Ascends kept_owner_key ks = search rules in
    let stands : place kept_owner_key (owner_numbers owner) ks ≡ Ok c.in-Some.at = search rules in
    let within : c.in-Some.at < length ks = search rules in
    let same : c.into_rows-rows.result.items ≡ ks = search rules in
    let is : row ≡ get_or ks c.in-Some.at row = c.index_mut.ensures.value ∙ ap (λ (xs : List KeptOwner). get_or xs c.in-Some.at row) same in
    subst (λ (o : KeptOwner). find kept_key (kept_key c.args.prepared.kept) o.numbers ≡ None) (of_owner ks owner c.in-Some.at row up stands within is) c.requires

pub from_ascending-requires : goal.from_ascending-requires
from_ascending-requires g c =
    let ks = c.args.kept.now in
    let owner = c.args.prepared.owner in
    let row = c.index_mut.result.now in
    let now = c.carry_known-outcome.new.row in
    let up : Ascends kept_owner_key ks = search rules in
    let stands : place kept_owner_key (owner_numbers owner) ks ≡ Ok c.in-Some.at = search rules in
    let within : c.in-Some.at < length ks = search rules in
    let same : c.into_rows-rows.result.items ≡ ks = search rules in
    let is : row ≡ get_or ks c.in-Some.at row = c.index_mut.ensures.value ∙ ap (λ (xs : List KeptOwner). get_or xs c.in-Some.at row) same in
    let key = key_kept c.carry_known-outcome.result c.args.prepared.kept row now c.carry_known-outcome.ensures.row c.carry_known-outcome.ensures.no_row in
    let made : set c.into_rows-rows.result.items c.in-Some.at now ≡ put kept_owner_key now ks =
    ap (λ (xs : List KeptOwner). set xs c.in-Some.at now) same ∙ set_is_put ks owner c.in-Some.at row up stands within is now key in
    ascends_now ks (set c.into_rows-rows.result.items c.in-Some.at now) now up made

pub returns-clause-kept : goal.returns-clause-kept
returns-clause-kept g c =
    let ks = c.args.kept.now in
    let owner = c.args.prepared.owner in
    let row = c.index_mut.result.now in
    let now = c.carry_known-outcome.new.row in
    let up : Ascends kept_owner_key ks = search rules in
    let stands : place kept_owner_key (owner_numbers owner) ks ≡ Ok c.in-Some.at = search rules in
    let within : c.in-Some.at < length ks = search rules in
    let same : c.into_rows-rows.result.items ≡ ks = search rules in
    let is : row ≡ get_or ks c.in-Some.at row = c.index_mut.ensures.value ∙ ap (λ (xs : List KeptOwner). get_or xs c.in-Some.at row) same in
    let key = key_kept c.carry_known-outcome.result c.args.prepared.kept row now c.carry_known-outcome.ensures.row c.carry_known-outcome.ensures.no_row in
    let made : c.from_ascending.result ≡ put kept_owner_key now ks =
    c.from_ascending.ensures
    ∙ (ap (λ (xs : List KeptOwner). set xs c.in-Some.at now) same ∙ set_is_put ks owner c.in-Some.at row up stands within is now key) in
    noted_now c.carry_known-outcome.result ks c.from_ascending.result owner c.args.prepared.kept row now c.carry_known-outcome.ensures.row (of_owner ks owner c.in-Some.at row up stands within is) made
