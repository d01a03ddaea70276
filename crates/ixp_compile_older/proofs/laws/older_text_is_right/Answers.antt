use Rattle.std.proofs.Common.{Ok, ap, sym, ◌∙◌}
use Rattle.ixp_lang.specs.Walks.{walk}
use Rattle.ixp_compile.specs.Fragment.{bgp_name}
use Rattle.ixp_compile.specs.Generated.{roa_tables}
use Rattle.ixp_compile.proofs.Rights.{right}
use Rattle.ixp_compile_older.proofs.Fated.{fated_there}
use Rattle.ixp_compile_older.proofs.Laid.{whole_there}
use Rattle.ixp_compile_older.proofs.laws.older_text_is_right.Goals as goal

pub returns : goal.returns
returns c = λ r handle router n s route older valid there its family.
    ap (λ items. walk items (roa_tables r) (bgp_name n) route) (sym (whole_there r older handle router there))
    ∙ right r valid handle router there n s its route family
    ∙ ap Ok (fated_there r older handle router there s route)
