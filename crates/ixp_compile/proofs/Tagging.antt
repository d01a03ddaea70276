-- How an import filter writes the server's communities on a route.
use Rattle.std.proofs.Common.{◌≡◌, ℕ, Bool, true, false, ◌&&◌, ◌||◌, ◌==◌, not, List, [], ◌∷◌, ◌++◌, map, filter, refl, sym, ap, ap₂, ◌∙◌, append_assoc, true≢false}
use Rattle.std.specs.List.{list_any}
use Rattle.std.proofs.lemmas.Bool.{and_parts, eqb-true, not-true}
use Rattle.std.proofs.lemmas.List.{map-append}
use Rattle.std.proofs.lemmas.List.Folds.{list_any-append}
use Rattle.ixp_lang.specs.declared.route.Route.{Route}
use Rattle.ixp_lang.specs.declared.value.Value.TheVariants as value
use Rattle.ixp_lang.specs.Attributes.{with_triple}
use Rattle.ixp_policy.specs.Import.{is_report, brought_triples}
use Rattle.ixp_compile.proofs.Communities.{eq_refl, any_agree, any_map}

pub filtered_none : {A : Type 0} (p q : A → Bool) → ((x : A) → q x ≡ true → p x ≡ false) → (xs : List A) → list_any p (filter q xs) ≡ false
filtered_none p q h [] = refl
filtered_none p q h (x ∷ xs) = go (filtered_none p q h xs) (q x) refl where
  go : list_any p (filter q xs) ≡ false → (b : Bool) → q x ≡ b → list_any p (filter q (x ∷ xs)) ≡ false
  go rest false e = rw e rest
  go rest true e = rw (e, h x e) rest

-- what was told of the next hop: nothing where it is the session's own
abbrev pub hop_told : Bool → List (ℕ × ℕ)
hop_told true = []
hop_told false = (1001, 1200) ∷ []

abbrev pub has_tag : ℕ → ℕ → List (ℕ × ℕ) → Bool
has_tag a b ts = list_any (λ t. t.0 == a && t.1 == b) ts

abbrev pub is_told : ℕ → Bool
is_told a = a == 1000 || a == 1001 || a == 1101

abbrev pub tag : ℕ → ℕ × ℕ → ℕ × ℕ × ℕ
tag rs t = (rs, t.0, t.1)

pub fresh_more : (a b c d : ℕ) (more : List (ℕ × ℕ)) → has_tag a b more ≡ false → (c == a && d == b) ≡ false → has_tag a b (more ++ (c, d) ∷ []) ≡ false
fresh_more a b c d more e f = list_any-append (λ t. t.0 == a && t.1 == b) more ((c, d) ∷ []) ∙ ap₂ (λ x y. x || (y || false)) e f

module _ (rs : ℕ) (route : Route) where
  abbrev pub base : List (ℕ × ℕ × ℕ)
  base = brought_triples rs route

  -- the route with what was told of the next hop and with more
  abbrev pub told : Bool → List (ℕ × ℕ) → Route
  told own more = record route { triples = base ++ map (tag rs) (hop_told own ++ more) }

  -- the server's own communities were taken off
  base_none : (a b : ℕ) → is_told a ≡ true → list_any (λ t. t.0 == rs && t.1 == a && t.2 == b) base ≡ false
  base_none a b e = filtered_none (λ t. t.0 == rs && t.1 == a && t.2 == b) (λ t. not (is_report rs t)) none route.triples where
    reported : (t : ℕ × ℕ × ℕ) → (t.0 == rs && t.1 == a && t.2 == b) ≡ true → is_report rs t ≡ true
    reported t h =
        let parts = and_parts (t.0 == rs && t.1 == a) (t.2 == b) h in
        let firsts = and_parts (t.0 == rs) (t.1 == a) parts.0 in
        let same : t.1 ≡ a = eqb-true t.1 a firsts.1 in
        ap (λ c. c && is_told t.1) firsts.0 ∙ ap is_told same ∙ e

    none : (t : ℕ × ℕ × ℕ) → not (is_report rs t) ≡ true → (t.0 == rs && t.1 == a && t.2 == b) ≡ false
    none t h = go (t.0 == rs && t.1 == a && t.2 == b) refl where
      go : (c : Bool) → (t.0 == rs && t.1 == a && t.2 == b) ≡ c → c ≡ false
      go false e = refl
      go true e = absurd (true≢false (sym (reported t e) ∙ not-true (is_report rs t) h))

  tags_none : (a b : ℕ) (ts : List (ℕ × ℕ)) → has_tag a b ts ≡ false → list_any (λ t. t.0 == rs && t.1 == a && t.2 == b) (map (tag rs) ts) ≡ false
  tags_none a b ts e =
      any_map (tag rs) (λ t. t.0 == rs && t.1 == a && t.2 == b) ts
      ∙ any_agree (λ t. rs == rs && t.0 == a && t.1 == b) (λ t. t.0 == a && t.1 == b) (λ t. ap (λ c. c && t.0 == a && t.1 == b) (eq_refl rs)) ts
      ∙ e

  absent : (own : Bool) (more : List (ℕ × ℕ)) (a b : ℕ) → is_told a ≡ true → has_tag a b (hop_told own) ≡ false → has_tag a b more ≡ false
      → list_any (λ t. t.0 == rs && t.1 == a && t.2 == b) (base ++ map (tag rs) (hop_told own ++ more)) ≡ false
  absent own more a b e f g =
      list_any-append (λ t. t.0 == rs && t.1 == a && t.2 == b) base (map (tag rs) (hop_told own ++ more))
      ∙ ap₂ (λ x y. x || y) (base_none a b e)
      (tags_none a b (hop_told own ++ more)
      (list_any-append (λ t. t.0 == a && t.1 == b) (hop_told own) more ∙ ap₂ (λ x y. x || y) f g))

  one_more : (own : Bool) (more : List (ℕ × ℕ)) (a b : ℕ)
      → (base ++ map (tag rs) (hop_told own ++ more)) ++ (rs, a, b) ∷ [] ≡ base ++ map (tag rs) (hop_told own ++ (more ++ (a, b) ∷ []))
  one_more own more a b =
      append_assoc base (map (tag rs) (hop_told own ++ more)) ((rs, a, b) ∷ [])
      ∙ ap (λ ts. base ++ ts)
      (sym (map-append (tag rs) (hop_told own ++ more) ((a, b) ∷ [])) ∙ ap (map (tag rs)) (append_assoc (hop_told own) more ((a, b) ∷ [])))

  -- one more, which isn't there
  tell_more : (own : Bool) (more : List (ℕ × ℕ)) (a b : ℕ) → is_told a ≡ true → has_tag a b (hop_told own) ≡ false → has_tag a b more ≡ false
      → with_triple (value.Triple rs a b) (told own more) ≡ told own (more ++ (a, b) ∷ [])
  tell_more own more a b e f g = rw (absent own more a b e f g) (ap (λ ts. record route { triples = ts }) (one_more own more a b))

  hop_fresh : (own : Bool) (a b : ℕ) → has_tag a b (hop_told false) ≡ false → has_tag a b (hop_told own) ≡ false
  hop_fresh true a b f = refl
  hop_fresh false a b f = f

  -- a tag other than that of the next hop
  pub tell : (own : Bool) (more : List (ℕ × ℕ)) (a b : ℕ) → is_told a ≡ true → has_tag a b (hop_told false) ≡ false → has_tag a b more ≡ false
      → with_triple (value.Triple rs a b) (told own more) ≡ told own (more ++ (a, b) ∷ [])
  tell own more a b e f g = tell_more own more a b e (hop_fresh own a b f) g

  pub tell_hop : with_triple (value.Triple rs 1001 1200) (told true []) ≡ told false []
  tell_hop = tell_more true [] 1001 1200 refl refl refl
