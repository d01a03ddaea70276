-- The AS numbers that whois data say fit 32 bits.
use Rattle.std.proofs.Common.{◌≡◌, ◌+◌, ◌-◌, ◌*◌, ◌^◌, ◌<◌, ◌≤◌, ◌++◌, ◌&&◌, ◌==◌, ◌⊎◌, inl, inr, ℕ, Bool, true, false, List, [], ◌∷◌, Option, Some, None, Result, Ok, Err, codes, refl, sym, ap, ◌∙◌, subst, arith, nat_le, if◌then◌else◌, option_and_then}
use Rattle.std.specs.Char.{is_ascii_digit, to_ascii_uppercase}
use Rattle.std.specs.List.{AllByRecursion, slice_split}
use Rattle.std.proofs.lemmas.Bool.{and_parts, leb-true}
use Rattle.ixp_num.specs.declared.asn.Asn.{Asn}
use Rattle.ixp_num.specs.declared.prefix.Prefix.{Prefix}
use Rattle.ixp_num_tables.specs.Decimals.{next_digit, number_from, number_upto}
use Rattle.ixp_rpsl.specs.Attributes.{attributes, bad_line, is_empty, named, whole_value}
use Rattle.ixp_rpsl.specs.Expansion.{has_name}
use Rattle.ixp_rpsl.specs.Lines.{Line, lines_in}
use Rattle.ixp_rpsl.specs.Objects.{AllSay, KindSays, NamedSays, ReadAnswer, TextSays, found_route, found_set, members_of, more_members, named_set, objects, route_of, set_of, kind_of}
use Rattle.ixp_rpsl.specs.Origins.{numbers_in, origins_in}
use Rattle.ixp_rpsl.specs.Values.{and_items, as_number, as_or_set, asn_of, item_of, items_in, items_of, set_item, set_name, trimmed}
use Rattle.ixp_rpsl.specs.declared.attributes.Attribute.{Attribute}
use Rattle.ixp_rpsl.specs.declared.entries.Kind.{Kind}
use Rattle.ixp_rpsl.specs.declared.entries.Kind.TheVariants as kinds
use Rattle.ixp_rpsl.specs.declared.found.Found.{Found}
use Rattle.ixp_rpsl.specs.declared.objects.Item.{Item}
use Rattle.ixp_rpsl.specs.declared.objects.Item.TheVariants as item
use Rattle.ixp_rpsl.specs.declared.objects.Objects.{Objects}
use Rattle.ixp_rpsl.specs.declared.objects.Reach.{Reach}
use Rattle.ixp_rpsl.specs.declared.objects.SetRow.{SetRow}

join : {A : Type 0} (P : A → Type 0) (xs ys : List A) → AllByRecursion P xs → AllByRecursion P ys → AllByRecursion P (xs ++ ys)
join P [] ys here there = there
join P (x ∷ xs) ys here there = (here.0, join P xs ys here.1 there)

-- where there is a number it is at most this
abbrev Upto : ℕ → Option ℕ → Type 0
Upto most None = Unit {0}
Upto most (Some n) = n ≤ most

from_upto : (most n : ℕ) (t : List ℕ) → n ≤ most → Upto most (number_from most n t)
from_upto most n [] low = low
from_upto most n (b ∷ t) low = by (is_ascii_digit b && nat_le (n * 10 + (b - 48)) most) refl (λ m. from_upto most m t) where
  by : (x : Bool) → (is_ascii_digit b && nat_le (n * 10 + (b - 48)) most) ≡ x → ((m : ℕ) → m ≤ most → Upto most (number_from most m t))
      → Upto most (option_and_then (λ m. number_from most m t) (if x then Some (n * 10 + (b - 48)) else None))
  by true e more = more (n * 10 + (b - 48)) (leb-true (n * 10 + (b - 48)) most (and_parts (is_ascii_digit b) (nat_le (n * 10 + (b - 48)) most) e).1)
  by false e more = tt

number_fits : (most : ℕ) (t : List ℕ) → Upto most (number_upto most t)
number_fits most [] = tt
number_fits most (b ∷ []) = from_upto most 0 (b ∷ []) (omega arith)
number_fits most (b ∷ c ∷ t) = by (b == 48) (from_upto most 0 (b ∷ c ∷ t) (omega arith)) where
  by : (x : Bool) → Upto most (number_from most 0 (b ∷ c ∷ t)) → Upto most (if x then None else number_from most 0 (b ∷ c ∷ t))
  by true is = tt
  by false is = is

abbrev pub Fits : Asn → Type 0
Fits a = a.0 < 2 ^ 32

abbrev SomeFits : Option Asn → Type 0
SomeFits None = Unit {0}
SomeFits (Some a) = Fits a

asn_fits : (n : Option ℕ) → Upto 4294967295 n → SomeFits (asn_of n)
asn_fits None upto = tt
asn_fits (Some n) upto = omega arith

as_fits : (t : List ℕ) → SomeFits (as_number t)
as_fits [] = tt
as_fits (a ∷ []) = tt
as_fits (a ∷ s ∷ digits) = by (to_ascii_uppercase a == 65 && to_ascii_uppercase s == 83) (asn_fits (number_upto 4294967295 digits) (number_fits 4294967295 digits)) where
  by : (x : Bool) → SomeFits (asn_of (number_upto 4294967295 digits)) → SomeFits (if x then asn_of (number_upto 4294967295 digits) else None)
  by true is = is
  by false is = tt

abbrev ItemFits : Item → Type 0
ItemFits (item.As a) = Fits a
ItemFits (item.Set name) = Unit {0}

abbrev SomeItemFits : Option Item → Type 0
SomeItemFits None = Unit {0}
SomeItemFits (Some i) = ItemFits i

set_fits : (name : Option (List ℕ)) → SomeItemFits (set_item name)
set_fits None = tt
set_fits (Some name) = tt

item_fits : (a : Option Asn) (other : Option Item) → SomeFits a → SomeItemFits other → SomeItemFits (as_or_set a other)
item_fits None other is more = more
item_fits (Some a) other is more = is

abbrev AllFit : List Item → Type 0
AllFit is = AllByRecursion ItemFits is

abbrev SomeFit : Option (List Item) → Type 0
SomeFit None = Unit {0}
SomeFit (Some is) = AllFit is

and_fit : (i : Option Item) (others : Option (List Item)) → SomeItemFits i → SomeFit others → SomeFit (and_items i others)
and_fit None others is more = tt
and_fit (Some i) None is more = tt
and_fit (Some i) (Some others) is more = (is, more)

items_fit : (ps : List (List ℕ)) → SomeFit (items_in ps)
items_fit [] = tt
items_fit (p ∷ ps) =
    by (is_empty (trimmed p)) (items_fit ps)
    (and_fit (item_of (trimmed p)) (items_in ps) (item_fits (as_number (trimmed p)) (set_item (set_name (trimmed p))) (as_fits (trimmed p)) (set_fits (set_name (trimmed p)))) (items_fit ps))
  where
    by : (x : Bool) → SomeFit (items_in ps) → SomeFit (and_items (item_of (trimmed p)) (items_in ps)) → SomeFit (if x then items_in ps else and_items (item_of (trimmed p)) (items_in ps))
    by true rest all = rest
    by false rest all = all

abbrev OkFit : Result (List Item) ℕ → Type 0
OkFit (Ok is) = AllFit is
OkFit (Err n) = Unit {0}

more_fit : (line : ℕ) (is : Option (List Item)) (others : Result (List Item) ℕ) → SomeFit is → OkFit others → OkFit (more_members line is others)
more_fit line None others here there = tt
more_fit line (Some is) (Err n) here there = tt
more_fit line (Some is) (Ok others) here there = join ItemFits is others here there

members_fit : (values : List Attribute) → OkFit (members_of values)
members_fit [] = tt
members_fit (a ∷ more) = more_fit a.line (items_of a.value) (members_of more) (items_fit (slice_split (λ b. b == 44) a.value)) (members_fit more)

-- the sets of what is found
abbrev SetsFit : List SetRow → Type 0
SetsFit sets = AllByRecursion (λ s. AllFit s.members) sets

set_found : (first : ℕ) (name : Option (List ℕ)) (members : Result (List Item) ℕ) → OkFit members → SetsFit (found_set (named_set first name members)).sets
set_found first None members fit = tt
set_found first (Some name) (Err n) fit = tt
set_found first (Some name) (Ok members) fit = (fit, tt)

route_found : (r : Result (Prefix × Asn) ℕ) → SetsFit (found_route r).sets
route_found (Ok r) = tt
route_found (Err n) = tt

kind_fits : (kind : Kind) (first : ℕ) (key : List ℕ) (ls : List Line) (found : Found) → KindSays kind first key ls found → SetsFit found.sets
kind_fits (kinds.Route family) first key ls found (net, says, e) =
    subst (λ f. SetsFit f.sets) (sym e) (route_found (route_of first net (attributes (codes "origin") ls)))
kind_fits kinds.Set first key ls found e =
    subst (λ f. SetsFit f.sets) (sym e) (set_found first (set_name key) (members_of (attributes (codes "members") ls)) (members_fit (attributes (codes "members") ls)))
kind_fits kinds.Other first key ls found e = subst (λ f. SetsFit f.sets) (sym e) tt

named_fits : (n : Option (List ℕ × List ℕ)) (first : ℕ) (ls : List Line) (found : Found) → NamedSays n first ls found → SetsFit found.sets
named_fits None first ls found e = subst (λ f. SetsFit f.sets) (sym e) tt
named_fits (Some p) first ls found (said, says, e) = subst (λ f. SetsFit f.sets) (sym e) (kind_fits (kind_of p.0) first (trimmed (whole_value p.1 ls)) ls said says)

all_fit : (os : List (Line × List Line)) (found : Found) → AllSay os found → SetsFit found.sets
all_fit [] found e = subst (λ f. SetsFit f.sets) (sym e) tt
all_fit (o ∷ os) found (one, others, says, rest, e) =
    subst (λ f. SetsFit f.sets) (sym e) (join (λ s. AllFit s.members) one.sets others.sets (named_fits (named o.0.bytes) o.0.number o.1 one says) (all_fit os others rest))

sets_fit : (input : List ℕ) (o : Objects) → ReadAnswer input (Ok o) → SetsFit o.sets
sets_fit input o (found, says, none, routes, sets) = subst SetsFit (sym sets) (all_fit (objects false (lines_in input)) found says)

numbers_fit : (is : List Item) → AllFit is → AllByRecursion Fits (numbers_in is)
numbers_fit [] fit = tt
numbers_fit (item.As a ∷ is) fit = (fit.0, numbers_fit is fit.1)
numbers_fit (item.Set name ∷ is) fit = numbers_fit is fit.1

origins_fit : (rows : List SetRow) (c : List Reach) → SetsFit rows → AllByRecursion Fits (origins_in rows c)
origins_fit [] c fit = tt
origins_fit (r ∷ rows) c fit = by (has_name c r.name) (numbers_fit r.members fit.0) (origins_fit rows c fit.1) where
  by : (x : Bool) → AllByRecursion Fits (numbers_in r.members) → AllByRecursion Fits (origins_in rows c) → AllByRecursion Fits (if x then numbers_in r.members ++ origins_in rows c else origins_in rows c)
  by true here there = join Fits (numbers_in r.members) (origins_in rows c) here there
  by false here there = there

pub read_origins_fit : (input : List ℕ) (o : Objects) (c : List Reach) → ReadAnswer input (Ok o) → AllByRecursion Fits (origins_in o.sets c)
read_origins_fit input o c read = origins_fit o.sets c (sets_fit input o read)
