use Rattle.std.proofs.Common.{rules, ◌≡◌, Option, sym, ap, ◌∙◌, subst}
use Rattle.ixp_registry.specs.Words.{owner_numbers}
use Rattle.ixp_machine_steps.specs.declared.kept.KeptOwner.{KeptOwner}
use Rattle.ixp_machine_steps.specs.Kept.{kept_owner_key, kept_of}
use Rattle.ixp_num_tables.specs.Tables.{without}
use Rattle.ixp_store_words.specs.Gathering.{all_of}
use Rattle.ixp_store_words.proofs.Gathered.{aside_row, aside_rest, twice_without}
use Rattle.ixp_store_words.proofs.gathering.set_aside.Goals as goal

pub returns-then-eq-clause-row : goal.returns-then-eq-clause-row
returns-then-eq-clause-row c =
    let is : c.in-Some.row.owner ≡ c.args.owner = search rules in
    subst (λ (o : Option KeptOwner). c.in-Some.row ≡ kept_of (all_of c.args.kept.now o) c.args.owner) (sym c.in-Some.is) (aside_row c.in-Some.row c.args.kept.now c.args.owner is)

pub returns-then-eq-clause-rest : goal.returns-then-eq-clause-rest
returns-then-eq-clause-rest c =
    let is : c.in-Some.row.owner ≡ c.args.owner = search rules in
    subst (λ (o : Option KeptOwner). without kept_owner_key (owner_numbers c.args.owner) c.args.kept.now ≡ without kept_owner_key (owner_numbers c.args.owner) (all_of c.args.kept.now o)) (sym c.in-Some.is)
    (aside_rest c.in-Some.row c.args.kept.now c.args.owner is)

pub returns-in_ok-put_in-in-Some-clause-rest : goal.returns-in_ok-put_in-in-Some-clause-rest
returns-in_ok-put_in-in-Some-clause-rest c =
    ap (without kept_owner_key (owner_numbers c.args.owner)) c.taken.ensures.rest
    ∙ (twice_without (owner_numbers c.args.owner) c.put_in.new.kept
    ∙ (ap (without kept_owner_key (owner_numbers c.args.owner)) c.in_ok-put_in-in-Some.ensures
    ∙ ap (λ (o : Option KeptOwner). without kept_owner_key (owner_numbers c.args.owner) (all_of c.args.kept.now o)) (sym c.in-Some.is)))

pub returns-in-None-clause-rest : goal.returns-in-None-clause-rest
returns-in-None-clause-rest c =
    ap (without kept_owner_key (owner_numbers c.args.owner)) c.taken-in-None.ensures.rest
    ∙ (twice_without (owner_numbers c.args.owner) c.args.kept.now
    ∙ ap (λ (o : Option KeptOwner). without kept_owner_key (owner_numbers c.args.owner) (all_of c.args.kept.now o)) (sym c.in-None.is))
