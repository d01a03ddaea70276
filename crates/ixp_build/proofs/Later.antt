-- What was ordered of a bundle may be installed after later edits.
use Rattle.std.proofs.Common.{rules, ◌≡◌, ◌<◌, ◌≤◌, ℕ, Bool, true, false, not, ◌==◌, nat_lt, List, option_map, refl, sym, ap, ◌∙◌, subst, arith, if◌then◌else◌}
use Rattle.std.proofs.lemmas.Bool.{eqb-true}
use Rattle.ixp_print.specs.Texts.{config_text}
use Rattle.ixp_registry.specs.declared.registry.Registry.{Registry}
use Rattle.ixp_registry.specs.Valid.{Valid}
use Rattle.ixp_registry_change.specs.declared.change.RegistryChange.{RegistryChange}
use Rattle.ixp_registry_change.specs.Changes.{with_change}
use Rattle.ixp_compile.specs.Header.{header}
use Rattle.ixp_compile.specs.Generated.{session_part}
use Rattle.ixp_build_pending.specs.declared.pending.Pending.{Pending}
use Rattle.ixp_build_pending.specs.declared.touch.Touch.{Touch}
use Rattle.ixp_build_pending.specs.Pendings.{IsLater, IsListed, IsNoted, header_count, later_count, lists_header, lists_session, session_count}
use Rattle.ixp_build_touches.specs.Touched.{reached, with_after}
use Rattle.ixp_build_touches.proofs.TwoSteps.{headers_alike, roas_alike, sessions_alike}
use Rattle.ixp_build_touches.proofs.Untouched.{headers_stay, parts_stay, roas_stay}
use Rattle.ixp_build.specs.declared.bundle.Bundle.{Bundle}
use Rattle.ixp_build.specs.Bundles.{AgreesBut, IsOf, head_wanted, part_wanted}
use Rattle.ixp_build.specs.Laws.{AlikeUpto}
use Rattle.ixp_build.specs.Orders.{installed, made_from, order_of}
use Rattle.ixp_build.proofs.AfterEdits.{install_settles}

-- What an edit doesn't touch is wanted as before.

older : (b : Bool) (c n upto : ℕ) → upto < c → (if b then c else n) ≤ upto → (b ≡ false) × (n ≤ upto)
older true c n upto more e = absurd (omega (arith, more, e))
older false c n upto more e = (refl, e)

module _ (r : Registry) (c : RegistryChange) (valid : Valid r) where
  abbrev touched : Touch
  touched = with_after (reached r c) (with_change r c)

  head_stays : (h : List ℕ) → lists_header touched h ≡ false → head_wanted r h ≡ head_wanted (with_change r c) h
  head_stays h un = ap (option_map (λ i. config_text (header i))) (headers_stay r c h (sym (headers_alike r c h) ∙ un))

  part_stays : (h : List ℕ) (n : ℕ) → lists_session touched h n ≡ false → part_wanted r h n ≡ part_wanted (with_change r c) h n
  part_stays h n un = ap (option_map (λ i. config_text (session_part i))) (parts_stay r c h n valid (sym (sessions_alike r c h n valid) ∙ un))

  roas_kept : touched.roas ≡ false → r.public.roas ≡ (with_change r c).public.roas
  roas_kept un = roas_stay r c (sym (roas_alike r c) ∙ un)

  pub alike_after : (upto : ℕ) (p q : Pending) (was : Registry) (k : ℕ) → upto < k → AlikeUpto upto p was r → IsNoted k (with_after (reached r c) (with_change r c)) p q → AlikeUpto upto q was (with_change r c)
  alike_after upto p q was k more a noted = record {
    heads = λ h few.
        let old = older (lists_header touched h) k (header_count p h) upto more (subst (λ n. n ≤ upto) (noted.headers h) few) in
        a.heads h old.1 ∙ head_stays h old.0;
    parts = λ h n few.
        let old = older (lists_session touched h n) k (session_count p h n) upto more (subst (λ m. m ≤ upto) (noted.sessions h n) few) in
        a.parts h n old.1 ∙ part_stays h n old.0;
    roas = λ few.
        let old = older touched.roas k p.roas upto more (subst (λ n. n ≤ upto) noted.roas few) in
        a.roas old.1 ∙ roas_kept old.0;
  }

pub alike_at_first : (upto : ℕ) (p : Pending) (r : Registry) → AlikeUpto upto p r r
alike_at_first upto p r = record { heads = λ h few. refl; parts = λ h n few. refl; roas = λ few. refl }

-- What isn't listed was touched by no later edit.

pub unlisted : (n : ℕ) (b : Bool) → b ≡ not (n == 0) → b ≡ false → n ≡ 0
unlisted n b is un = by_test (n == 0) refl (sym is ∙ un)
  where
    by_test : (z : Bool) → (n == 0) ≡ z → not (n == 0) ≡ false → n ≡ 0
    by_test true e none = eqb-true n 0 e
    by_test false e none = absurd (let bad : true ≡ false = sym (ap not e) ∙ none in let wrong : ⊥ = cc in wrong)

not_later : (upto c n : ℕ) → n ≡ later_count upto c → n ≡ 0 → c ≤ upto
not_later upto c n is zero = by_test (nat_lt upto c) refl
  where
    by_test : (b : Bool) → nat_lt upto c ≡ b → c ≤ upto
    by_test true e = let more : upto < c = search rules in let none : c ≡ 0 = sym (is ∙ ap (λ z. if z then c else 0) e) ∙ zero in absurd (let wrong : ⊥ = omega (arith, more, none) in wrong)
    by_test false e = search rules

earlier : (upto c n : ℕ) (b : Bool) → n ≡ later_count upto c → b ≡ not (n == 0) → b ≡ false → c ≤ upto
earlier upto c n b is listed un = not_later upto c n is (unlisted n b listed un)

-- the texts of an order, installed after later edits
pub installed_later : (b : Bundle) (p q : Pending) (was now : Registry) (t left : Touch) (upto : ℕ) → AgreesBut t b was → AlikeUpto upto p was now → IsLater upto p q → IsListed q left
    → AgreesBut left (installed b (made_from (order_of b.built upto was t))) now
installed_later b p q was now t left upto agrees alike later listed =
    let whole : IsOf (installed b (made_from (order_of b.built upto was t))) was = install_settles t b was upto agrees in
    record {
      order = whole.order;
      heads = λ h un. whole.heads h refl ∙ alike.heads h (earlier upto (header_count p h) (header_count q h) (lists_header left h) (later.headers h) (listed.headers h) un);
      parts = λ h n un. whole.parts h n refl ∙ alike.parts h n (earlier upto (session_count p h n) (session_count q h n) (lists_session left h n) (later.sessions h n) (listed.sessions h n) un);
      roas = λ un. whole.roas refl ∙ alike.roas (earlier upto p.roas q.roas left.roas later.roas listed.roas un);
    }
