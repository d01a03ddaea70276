-- What sessions must be like.
use Rattle.std.specs.Prelude.{◌≡◌, true, false, List, [], ◌∷◌, decimal, Option}
use Rattle.std.specs.List.{list_all}
use Rattle.ixp_num.specs.declared.addr.Addr.{Addr}
use Rattle.ixp_num.specs.declared.family.Family.{Family}
use Rattle.ixp_num.specs.declared.pattern.Pattern.{Pattern}
use Rattle.ixp_lang_tokens.specs.Pieces.{same_word}
use Rattle.ixp_compile.specs.declared.inputs.Inputs.{Inputs}
use Rattle.ixp_lang_laws.specs.Sound.{some_of, is_lawful}

module _ (f : Family) (b : Option Addr) (sets : Inputs → List Pattern) (blackholes : Inputs
    → List Pattern) where
  abbrev pub IsFit : Inputs → Type 0
  IsFit i = (i.family ≡ f) × (i.blackhole ≡ b) × (list_all is_lawful (sets i) ≡ true)
      × (list_all is_lawful (blackholes i) ≡ true) × (some_of i.addresses ≡ true)

  abbrev pub IsOther : Inputs → List Inputs → Type 0
  IsOther i [] = Unit {0}
  IsOther i (j ∷ js) = (same_word (decimal i.interface) (decimal j.interface) ≡ false) × IsOther i js

  abbrev pub AreFit : List Inputs → Type 0
  AreFit [] = Unit {0}
  AreFit (i ∷ is) = IsFit i × IsOther i is × AreFit is
