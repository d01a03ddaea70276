-- That a store tells certain rows is a fact, since rows have a code. Nobody needs to believe this: it serves
-- proofs.
use Rattle.std.specs.Prelude.{ℕ, List, Option, refl}
use Rattle.std.specs.Coded.{Coded, code_by, coded×, coded_ℕ, coded_list, coded_option}
use Rattle.std.specs.FinMap.{code}
use Rattle.ixp_io.specs.declared.keeper.RowName.{RowName}
use Rattle.ixp_io.specs.Tables.{Table}

abbrev coded_name : Coded RowName
coded_name = code_by (ℕ × List ℕ) (coded× coded_ℕ (coded_list coded_ℕ)) (λ (n : RowName). (n.kind, n.key))
    (λ (p : ℕ × List ℕ). record { kind = p.0; key = p.1 }) (λ n. refl)

abbrev pub coded_rows : Coded (Option Table)
coded_rows = coded_option (code coded_name (coded_list coded_ℕ))
