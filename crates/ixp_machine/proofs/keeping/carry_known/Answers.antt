use Rattle.std.proofs.Common.{rules, ◌≡◌, List, [], ◌∷◌, None, sym, ap, ◌∙◌}
use Rattle.ixp_num_tables.specs.Tables.{find, put, without}
use Rattle.ixp_num_tables.proofs.TableLaws.{without-put}
use Rattle.ixp_machine_steps.specs.declared.kept.KeptNumber.{KeptNumber}
use Rattle.ixp_machine_steps.specs.Kept.{kept_key}
use Rattle.ixp_machine.proofs.keeping.carry_known.Goals as goal

pub returns-in-Err-clause-no_row : goal.returns-in-Err-clause-no_row
returns-in-Err-clause-no_row g c =
    let row = c.args.row.now in
    let number = c.args.number in
    let now : c.put.new.self ≡ put kept_key number row.numbers = search rules in
    let back : c.take_out.new.self ≡ row.numbers = c.take_out.ensures ∙ (ap (without kept_key (kept_key number)) now ∙ without-put kept_key number row.numbers c.requires) in
    ap (λ (ns : List KeptNumber). record row { numbers = ns }) back
