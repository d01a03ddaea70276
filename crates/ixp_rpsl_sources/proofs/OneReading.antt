-- A text has one reading, and strangers change nothing of it.
use Rattle.std.proofs.Common.{◌≡◌, ℕ, ◌++◌, Bool, true, false, List, [], ◌∷◌, Option, Some, None, codes, if◌then◌else◌, refl, sym, ap, ◌∙◌}
use Rattle.std.specs.Option.{is_some}
use Rattle.ixp_rpsl.specs.Lines.{Line, lines_in}
use Rattle.ixp_rpsl.specs.Attributes.{attributes, bad_line, named, whole_value}
use Rattle.ixp_rpsl.specs.Objects.{objects, route_of}
use Rattle.ixp_rpsl.specs.Values.{trimmed}
use Rattle.ixp_rpsl.specs.declared.objects.Objects.{Objects}
use Rattle.ixp_rpsl.proofs.Saying.{one_prefix_said}
use Rattle.ixp_rpsl_sources.specs.Counting as counting
use Rattle.ixp_rpsl_sources.specs.Said.{AllSay, FormedSays, ObjectSays, PlacedSays, Said, StandingSays, WantedSays, joined, nothing, route_said, unmarked, wanted_of}
use Rattle.ixp_rpsl_sources.specs.Sources.{standing_of}
use Rattle.ixp_rpsl_sources.specs.Strangers.{SaysNothing}
use Rattle.ixp_rpsl_sources.specs.declared.counting.Counted.{Counted}
use Rattle.ixp_rpsl_sources.specs.declared.objects.SetObject.{SetObject}
use Rattle.ixp_rpsl_sources.specs.declared.objects.Wanted.{Wanted}
use Rattle.ixp_rpsl_sources.specs.declared.objects.Wanted.TheVariants as wanted
use Rattle.ixp_rpsl_sources.specs.declared.standing.Standing.{Standing}
use Rattle.ixp_rpsl_sources.specs.declared.standing.Standing.TheVariants.{Nowhere, Elsewhere, At}

wanted_one : (kind : Wanted) (place first : ℕ) (key : List ℕ) (ls : List Line) (a b : Said) → WantedSays kind place first key ls a → WantedSays kind place first key ls b → a ≡ b
wanted_one (wanted.Route family) place first key ls a b (net, says, e) (other, more, f) =
    e ∙ (ap (λ n. route_said first (route_of first n (attributes (codes "origin") ls))) (one_prefix_said family key net other says more) ∙ sym f)
wanted_one wanted.Set place first key ls a b x y = x ∙ sym y
wanted_one wanted.Number place first key ls a b x y = x ∙ sym y
wanted_one wanted.Other place first key ls a b x y = x ∙ sym y

placed_one : (standing : Standing) (kind : Wanted) (first : ℕ) (key : List ℕ) (ls : List Line) (a b : Said) → PlacedSays standing kind first key ls a → PlacedSays standing kind first key ls b → a ≡ b
placed_one Nowhere kind first key ls a b x y = x ∙ sym y
placed_one Elsewhere kind first key ls a b x y = x ∙ sym y
placed_one (At place) kind first key ls a b x y = wanted_one kind place first key ls a b x y

formed_one : (standing : Standing) (n : Option (List ℕ × List ℕ)) (is_bad : Bool) (first : ℕ) (ls : List Line) (a b : Said) → FormedSays standing n is_bad first ls a → FormedSays standing n is_bad first ls b → a ≡ b
formed_one standing None is_bad first ls a b x y = x ∙ sym y
formed_one standing (Some p) true first ls a b x y = x ∙ sym y
formed_one standing (Some p) false first ls a b x y = placed_one standing (wanted_of p.0) first (trimmed (whole_value p.1 ls)) ls a b x y

standing_one : (standing : Standing) (n : Option (List ℕ × List ℕ)) (is_bad : Bool) (first : ℕ) (ls : List Line) (a b : Said) → StandingSays standing n is_bad first ls a → StandingSays standing n is_bad first ls b → a ≡ b
standing_one Nowhere n is_bad first ls a b x y = formed_one Nowhere n is_bad first ls a b x y
standing_one Elsewhere n is_bad first ls a b x y = x ∙ sym y
standing_one (At place) n is_bad first ls a b x y = formed_one (At place) n is_bad first ls a b x y

module _ (sources : List (List ℕ)) where
  object_one : (l : Line) (ls : List Line) (a b : Said) → ObjectSays sources l ls a → ObjectSays sources l ls b → a ≡ b
  object_one l ls a b x y = standing_one (standing_of sources (attributes (codes "source") ls)) (named l.bytes) (is_some (bad_line ls)) l.number ls a b x y

  all_one : (os : List (Line × List Line)) (a b : Said) → AllSay sources os a → AllSay sources os b → a ≡ b
  all_one [] a b x y = x ∙ sym y
  all_one (o ∷ os) a b (one, others, says, rest, e) (two, more, said, left, f) =
      e ∙ (ap (λ x. joined x others) (object_one o.0 o.1 one two says said) ∙ (ap (joined two) (all_one os others more rest left) ∙ sym f))

  pub one_reading : (t : List ℕ) (x y : Counted) → counting.Reads sources t x → counting.Reads sources t y → x ≡ y
  one_reading t x y (a, says, objects_a, passed_a) (b, more, objects_b, passed_b) =
      let same : a ≡ b = all_one (objects false (lines_in (unmarked t))) a b says more in
      let one : x.objects ≡ y.objects = objects_a ∙ (ap (counting.counted sources) same ∙ sym objects_b) in
      let two : x.passed ≡ y.passed = passed_a ∙ (ap (λ (s : Said). s.passed) same ∙ sym passed_b) in
      ap (λ o. record { objects = o; passed = x.passed }) one ∙ ap (λ p. record { objects = y.objects; passed = p }) two

  -- what counts of what is said
  abbrev core : Said → Said
  core s = record { routes = s.routes; sets = s.sets; claims = s.claims; passed = [] }

  under_core : (s : Said) (o : SetObject) (ns : List (List ℕ)) → counting.rows_under sources s o ns ≡ counting.rows_under sources (core s) o ns
  under_core s o [] = refl
  under_core s o (n ∷ ns) =
      ap (λ rs. if counting.counts sources s.sets n o.line then record { name = n; members = counting.all_members sources s o } ∷ rs else rs) (under_core s o ns)

  rows_core : (s : Said) (os : List SetObject) → counting.rows sources s os ≡ counting.rows sources (core s) os
  rows_core s [] = refl
  rows_core s (o ∷ os) =
      ap (λ r. r ++ counting.rows_under sources s o (counting.names_of sources o)) (rows_core s os)
      ∙ ap (λ r. counting.rows sources (core s) os ++ r) (under_core s o (counting.names_of sources o))

  core_join : (a b : Said) → core (joined a b) ≡ joined (core a) (core b)
  core_join a b = refl

  core_same : (before after : List (Line × List Line)) (o : Line × List Line) (x y : Said) → SaysNothing sources o → AllSay sources (before ++ o ∷ after) x → AllSay sources (before ++ after) y → core x ≡ core y
  core_same [] after o x y (lines, none) (one, others, says, rest, e) more =
      let empty : core one ≡ nothing = ap core (object_one o.0 o.1 one (record { routes = []; sets = []; claims = []; passed = lines }) says none) in
      ap core e ∙ (ap (λ n. joined n (core others)) empty ∙ ap core (all_one after others y rest more))
  core_same (b ∷ bs) after o x y none (one, others, says, rest, e) (two, more, said, left, f) =
      ap core e ∙ (ap (λ n. joined (core n) (core others)) (object_one b.0 b.1 one two says said)
      ∙ (ap (joined (core two)) (core_same bs after o others more none rest left) ∙ sym (ap core f)))

  counted_core : (s : Said) → counting.counted sources s ≡ counting.counted sources (core s)
  counted_core s = ap (λ rs. let o : Objects = record { routes = s.routes; sets = rs } in o) (rows_core s s.sets)

  pub strangers : (before after : List (Line × List Line)) (o : Line × List Line) (x y : Said) → SaysNothing sources o → AllSay sources (before ++ o ∷ after) x → AllSay sources (before ++ after) y
      → counting.counted sources x ≡ counting.counted sources y
  strangers before after o x y none says more = counted_core x ∙ (ap (counting.counted sources) (core_same before after o x y none says more) ∙ sym (counted_core y))
