-- What values say.
use Rattle.std.proofs.Common.{◌≡◌, ◌≢◌, ℕ, ◌++◌, Bool, true, false, List, [], ◌∷◌, Option, Some, None, Result, Ok, Err, refl, ap, ◌∙◌, subst, if◌then◌else◌, append_assoc}
use Rattle.std.proofs.lemmas.List.{append-nil}
use Rattle.ixp_num.specs.Answers.{PrefixAnswer}
use Rattle.ixp_num.specs.declared.family.Family.{Family}
use Rattle.ixp_num.specs.declared.fault.NumFault.{NumFault}
use Rattle.ixp_num.specs.declared.prefix.Prefix.{Prefix}
use Rattle.ixp_num.proofs.OneAnswer.{one_prefix}
use Rattle.ixp_rpsl.specs.Attributes.{is_empty}
use Rattle.ixp_rpsl.specs.Values.{SaysPrefix, and_items, item_of, items_in, trimmed}
use Rattle.ixp_rpsl.specs.Puts.{Puts}
use Rattle.ixp_rpsl.specs.declared.objects.Item.{Item}

-- a text that is no prefix, or one of the other family
pub no_prefix : (family : Family) (t : List ℕ) (e : NumFault) → PrefixAnswer t (Err e) → SaysPrefix family t None
no_prefix family t e is = λ p is_p. absurd (let same : ◌≡◌ {A = Result Prefix NumFault} (Err e) (Ok p) = one_prefix t (Err e) (Ok p) is is_p in let h : ⊥ = cc in h)

pub other_prefix : (family : Family) (t : List ℕ) (p : Prefix) → PrefixAnswer t (Ok p) → p.family ≢ family → SaysPrefix family t None
other_prefix family t p is other = λ q is_q here.
    let same : ◌≡◌ {A = Result Prefix NumFault} (Ok p) (Ok q) = one_prefix t (Ok p) (Ok q) is is_q in
    let one : p ≡ q = cc in
    other (ap (λ (x : Prefix). x.family) one ∙ here)

pub one_prefix_said : (family : Family) (t : List ℕ) (a b : Option Prefix) → SaysPrefix family t a → SaysPrefix family t b → a ≡ b
one_prefix_said family t None None x y = refl
one_prefix_said family t None (Some q) x y = absurd (x q y.0 y.1)
one_prefix_said family t (Some p) None x y = absurd (y p x.0 x.1)
one_prefix_said family t (Some p) (Some q) x y =
    let same : ◌≡◌ {A = Result Prefix NumFault} (Ok p) (Ok q) = one_prefix t (Ok p) (Ok q) x.0 y.0 in
    let one : p ≡ q = cc in
    ap (λ r. Some r) one

-- one part more
never : {P : Type 0} → true ≡ false → P
never e = absurd (let h : ⊥ = cc in h)

pub more_items : (p : List ℕ) (ps : List (List ℕ)) (fine : Bool) (old mid new : List Item) → Puts (items_in (p ∷ [])) true old mid → Puts (items_in ps) fine mid new → Puts (items_in (p ∷ ps)) fine old new
more_items p ps fine old mid new first rest = by (is_empty (trimmed p)) first where
  with : (i : Item) (others : Option (List Item)) → mid ≡ old ++ i ∷ [] → Puts others fine mid new → Puts (and_items (Some i) others) fine old new
  with i None here more = more
  with i (Some is) here more = (more.0, more.1 ∙ (ap (λ m. m ++ is) here ∙ append_assoc old (i ∷ []) is))

  item : (i : Option Item) → Puts (and_items i (Some [])) true old mid → Puts (and_items i (items_in ps)) fine old new
  item None here = never here
  item (Some i) here = with i (items_in ps) here.1 rest

  by : (b : Bool) → Puts (if b then Some [] else and_items (item_of (trimmed p)) (Some [])) true old mid → Puts (if b then items_in ps else and_items (item_of (trimmed p)) (items_in ps)) fine old new
  by true here = subst (λ m. Puts (items_in ps) fine m new) (here.1 ∙ append-nil old) rest
  by false here = item (item_of (trimmed p)) here
