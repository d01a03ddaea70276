-- An input has one text, or one cause why it has none.
use Rattle.std.proofs.Common.{◌≡◌, ◌≢◌, ◌≤◌, ◌<◌, inl, inr, ℕ, true, false, List, Result, Ok, Err, length, refl, sym, ap, ◌∙◌, subst, arith}
use Rattle.ixp_num.specs.declared.asn.Asn.{Asn}
use Rattle.ixp_num.specs.declared.family.Family.{Family}
use Rattle.ixp_num.specs.declared.prefix.Prefix.{Prefix}
use Rattle.ixp_num_sorted.specs.Keys.{asn_key, prefix_key}
use Rattle.ixp_irr.proofs.OneList.{one_order}
use Rattle.ixp_rpsl.specs.Breadth.{ExpandAnswer, has_object}
use Rattle.ixp_rpsl.specs.Objects.{ReadAnswer}
use Rattle.ixp_rpsl.specs.Origins.{SortedAnswer, origins_in, prefixes_in}
use Rattle.ixp_rpsl.specs.declared.fault.RpslFault.{RpslFault}
use Rattle.ixp_rpsl.specs.declared.fault.RpslFault.TheVariants as rpsl
use Rattle.ixp_rpsl.specs.declared.objects.Objects.{Objects}
use Rattle.ixp_rpsl.specs.declared.objects.Reach.{Reach}
use Rattle.ixp_rpsl.proofs.OneReading.{one_answer}
use Rattle.ixp_rpsl_text.specs.declared.fault.ExpandCause.{ExpandCause}
use Rattle.ixp_rpsl_text.specs.declared.fault.ExpandCause.TheVariants as cause
use Rattle.ixp_rpsl_text.specs.declared.listing.Listing.{Listing}
use Rattle.ixp_rpsl_text.specs.declared.listing.Listing.TheVariants.{Sets, Origins, Prefixes}
use Rattle.ixp_rpsl_text.specs.Listings.{Expands, ExpandsNot, HasTooMany, IsExpanded, IsListing, OriginsAnswer, PrefixesAnswer}
use Rattle.ixp_rpsl_text.specs.Texts.{origins_text, prefixes_text}
use Rattle.ixp_rpsl_text.proofs.OneChain.{one_chain}

module _ {A : Type 0} (key : A → List ℕ) (items : List A) where
  one_sorted : (xs ys : List A) → SortedAnswer key items (Ok xs) → SortedAnswer key items (Ok ys) → xs ≡ ys
  one_sorted xs ys a b = one_order key items xs ys a.0 b.0

  few_or_many : (xs : List A) (have : ℕ) → SortedAnswer key items (Ok xs) → ¬ (SortedAnswer key items (Err (rpsl.TooMany have)))
  few_or_many xs have a (ys, in_order, count, many) =
      let same : length xs ≡ length ys = ap length (one_order key items xs ys a.0 in_order) in
      let few = a.1 in
      omega arith

same_objects : (input : List ℕ) (o p : Objects) → ReadAnswer input (Ok o) → ReadAnswer input (Ok p) → o ≡ p
same_objects input o p a b =
    let e : ◌≡◌ {A = Result Objects RpslFault} (Ok o) (Ok p) = one_answer input (Ok o) (Ok p) (λ x. cc) (λ x. cc) a b in
    cc

not_read : (input : List ℕ) (o : Objects) (n : ℕ) → ReadAnswer input (Ok o) → ¬ (ReadAnswer input (Err (rpsl.Line n)))
not_read input o n a b =
    let e : ◌≡◌ {A = Result Objects RpslFault} (Ok o) (Err (rpsl.Line n)) = one_answer input (Ok o) (Err (rpsl.Line n)) (λ x. cc) (λ x. cc) a b in
    cc

same_expansion : (input root : List ℕ) (o p : Objects) (c d : List Reach) → IsExpanded input root o c → IsExpanded input root p d → (o ≡ p) × (c ≡ d)
same_expansion input root o p c d a b =
    let same = same_objects input o p a.0 b.0 in
    (same, one_chain o.sets root c d a.1 (subst (λ q. ExpandAnswer q.sets root (Ok d)) (sym same) b.1))

one_listing : (o : Objects) (c : List Reach) (family : Family) (which : Listing) (x y : List ℕ) → IsListing o c family which x → IsListing o c family which y → x ≡ y
one_listing o c family Sets x y a b = a ∙ sym b
one_listing o c family Origins x y (xs, are, e) (ys, others, f) = e ∙ (ap origins_text (one_sorted asn_key (origins_in o.sets c) xs ys are others) ∙ sym f)
one_listing o c family Prefixes x y (xs, are, ps, nets, e) (ys, others, qs, more, f) =
    let same = one_sorted asn_key (origins_in o.sets c) ys xs others are in
    e ∙ (ap prefixes_text (one_sorted prefix_key (prefixes_in o.routes xs family) ps qs nets (subst (λ l. PrefixesAnswer o family l (Ok qs)) same more)) ∙ sym f)

fits : (o : Objects) (c : List Reach) (family : Family) (which : Listing) (x : List ℕ) (have : ℕ) → IsListing o c family which x → ¬ (HasTooMany o c family which have)
fits o c family Sets x have a many = many
fits o c family Origins x have (xs, are, e) many = few_or_many asn_key (origins_in o.sets c) xs have are many
fits o c family Prefixes x have (xs, are, ps, nets, e) (inl many) = few_or_many asn_key (origins_in o.sets c) xs have are many
fits o c family Prefixes x have (xs, are, ps, nets, e) (inr (ys, others, many)) =
    let same = one_sorted asn_key (origins_in o.sets c) ys xs others are in
    few_or_many prefix_key (prefixes_in o.routes xs family) ps have nets (subst (λ l. PrefixesAnswer o family l (Err (rpsl.TooMany have))) same many)

module _ (input root : List ℕ) (family : Family) (which : Listing) where
  pub one_text : (x y : List ℕ) → Expands input root family which x → Expands input root family which y → x ≡ y
  one_text x y (o, c, here, is) (p, d, there, other) =
      let same = same_expansion input root p o d c there here in
      one_listing o c family which x y is (subst (λ q. IsListing q c family which y) same.0 (subst (λ l. IsListing p l family which y) same.1 other))

  absent : (o : Objects) → has_object o.sets root ≡ true → has_object o.sets root ≡ false → ⊥
  absent o e f = let h : ⊥ = cc in h

  pub text_or_cause : (x : List ℕ) (why : ExpandCause) → Expands input root family which x → ¬ (ExpandsNot input root family which why)
  text_or_cause x (cause.Line n) (o, c, here, is) bad = not_read input o n here.0 bad
  text_or_cause x (cause.NoSet set) (o, c, here, is) (same, (p, read, none)) =
      absent o here.1.0 (subst (λ q. has_object q.sets root ≡ false) (same_objects input p o read here.0) none)
  text_or_cause x (cause.TooMany have) (o, c, here, is) (p, d, there, many) =
      let same = same_expansion input root p o d c there here in
      fits o c family which x have is (subst (λ q. HasTooMany q c family which have) same.0 (subst (λ l. HasTooMany p l family which have) same.1 many))
