-- What stands behind the divider: ROAs, and the route that is tried.
use Rattle.std.specs.Prelude.{◌≡◌, ◌≤◌, ◌⊎◌, ℕ, ◌+◌, true, List, [], ◌∷◌, ◌++◌, length, codes, Option, Some, None, Result, Ok, Err}
use Rattle.ixp_num.specs.declared.roa.Roa.{Roa}
use Rattle.ixp_num.specs.Names.{is_name}
use Rattle.ixp_num.specs.Forms.{IsDecimal}
use Rattle.ixp_num.specs.Answers.{AsnAnswer, PrefixAnswer}
use Rattle.ixp_lang.specs.declared.reading.fault.RouteFault.TheVariants as why
use Rattle.ixp_lang.specs.RouteAnswers.{RouteAnswer}
use Rattle.ixp_eval_trial.specs.declared.fault.RouteCode.{RouteCode}
use Rattle.ixp_eval_trial.specs.declared.fault.RouteCode.TheVariants as code
use Rattle.ixp_eval_trial.specs.declared.fault.TrialFault.{TrialFault}
use Rattle.ixp_eval_trial.specs.declared.fault.TrialFault.TheVariants as fault
use Rattle.ixp_eval_trial.specs.declared.trial.Trial.{Trial}
use Rattle.ixp_eval_trial.specs.Lines.{lines, HasNoDivider, Divided}

-- `roa`, a blank, and more
abbrev pub BeginsRoa : List ℕ → Type 0
BeginsRoa line = (rest : List ℕ) × (line ≡ codes "roa " ++ rest)

-- `roa <table> <prefix> <max> <asn>`, with single blanks: a name, a prefix (RFC 4291 section 2.3, RFC 4632
-- section 3.1), a max length (RFC 6482 section 3.3), which may be any number of 8 bits, and an AS number (RFC
-- 5396, asplain)
pub record IsRoaLine (line : List ℕ) (table : List ℕ) (roa : Roa) : Type 0 where
  pub net : List ℕ
  pub max : List ℕ
  pub asn : List ℕ
  pub whole : line ≡ codes "roa " ++ (table ++ 32 ∷ (net ++ 32 ∷ (max ++ 32 ∷ asn)))
  pub is_table : is_name table ≡ true
  pub is_net : PrefixAnswer net (Ok roa.prefix)
  pub is_max : IsDecimal max roa.max
  pub is_low : roa.max ≤ 255
  pub is_asn : AsnAnswer asn (Ok roa.asn)

-- each line is the ROA's
abbrev pub AreRoaLines : List (List ℕ) → List (List ℕ × Roa) → Type 0
AreRoaLines [] [] = Unit {0}
AreRoaLines [] (p ∷ ps) = ⊥
AreRoaLines (l ∷ ls) [] = ⊥
AreRoaLines (l ∷ ls) (p ∷ ps) = IsRoaLine l p.0 p.1 × AreRoaLines ls ps

-- `route <session> <route>`: a name, a blank, and the text of a route
abbrev pub IsRouteLine : List ℕ → List ℕ → List ℕ → Type 0
IsRouteLine line session text = (line ≡ codes "route " ++ (session ++ 32 ∷ text)) × (is_name session ≡ true)

-- why a text is no route's
abbrev pub IsNoRouteText : List ℕ → RouteCode → Type 0
IsNoRouteText text code.Text = (at : ℕ) × RouteAnswer text (Err (why.Text at))
IsNoRouteText text code.Family = RouteAnswer text (Err why.Family)
IsNoRouteText text code.Set = (at : ℕ) × RouteAnswer text (Err (why.Set at))
IsNoRouteText text code.TooLong = (at : ℕ) × RouteAnswer text (Err (why.TooLong at))

-- why a line is no route's: it isn't of the form, or what it has for a route's text is none
abbrev pub IsNoRoute : List ℕ → RouteCode → Type 0
IsNoRoute line c =
    (((session text : List ℕ) → ¬ (IsRouteLine line session text)) × (c ≡ code.Text))
    ⊎ ((session text : List ℕ) × IsRouteLine line session text × IsNoRouteText text c)

-- Of these lines, the first of which has the number `first`, the front is the lines of these ROAs; behind
-- them stands the rest, the first line of which has this number.
pub record Behind (ls : List (List ℕ)) (first : ℕ) (roas : List (List ℕ
    × Roa)) (number : ℕ) (rest : List (List ℕ)) : Type 0 where
  pub before : List (List ℕ)
  pub whole : ls ≡ before ++ rest
  pub are_roas : AreRoaLines before roas
  pub is_number : number ≡ first + length before

-- the number of the line behind this one, if there is one
abbrev pub following : ℕ → List (List ℕ) → Option ℕ
following number [] = None
following number (l ∷ ls) = Some (number + 1)

-- What these lines are, of which the first has this number. The first line that isn't the line of a ROA is
-- the route's, and the first that can't stand where it does is told. Lines that end before the route's are
-- told where that would stand.
abbrev pub LinesAnswer : List (List ℕ) → ℕ → Result Trial TrialFault → Type 0
LinesAnswer ls first (Ok t) =
    (line text : List ℕ) × (after : List (List ℕ)) × Behind ls first t.roas t.line (line ∷ after)
    × IsRouteLine line t.session text × RouteAnswer text (Ok t.route) × (t.more ≡ following t.line after)
LinesAnswer ls first (Err (fault.BadLine n)) =
    (roas : List (List ℕ × Roa)) × (line : List ℕ) × (after : List (List ℕ))
    × Behind ls first roas n (line ∷ after)
    × BeginsRoa line × ((table : List ℕ) (roa : Roa) → ¬ (IsRoaLine line table roa))
LinesAnswer ls first (Err (fault.BadRoute n c)) =
    ((roas : List (List ℕ × Roa)) × (line : List ℕ) × (after : List (List ℕ))
    × Behind ls first roas n (line ∷ after) × ¬ (BeginsRoa line) × IsNoRoute line c)
    ⊎ ((roas : List (List ℕ × Roa)) × Behind ls first roas n [] × (c ≡ code.Text))
LinesAnswer ls first (Err fault.NoMemory) = Unit {0}

-- What an input is: what the lines behind its divider are. Where there is no divider, the line behind the
-- last one is told.
abbrev pub TrialAnswer : List ℕ → Result Trial TrialFault → Type 0
TrialAnswer input result =
    ((above behind : List (List ℕ)) × Divided input above behind
    × LinesAnswer behind (length above + 2) result)
    ⊎ (HasNoDivider (lines input) × (result ≡ Err (fault.BadLine (length (lines input) + 1))))
