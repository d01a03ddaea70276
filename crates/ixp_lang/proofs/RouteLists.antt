-- A list is read item by item.
use Rattle.std.proofs.Common.{◌≡◌, ℕ, suc, ◌+◌, ◌-◌, ◌<◌, ◌≤◌, List, [], ◌∷◌, ◌++◌, Option, Some, None, Result, Ok, Err, refl, sym, ap, ◌∙◌, arith, append_assoc}
use Rattle.ixp_lang.specs.declared.reading.fault.Stop.{Stop}
use Rattle.ixp_lang.specs.declared.reading.fault.Stop.TheVariants.{Text}
use Rattle.ixp_lang.specs.RouteReading.{◌then◌, texted, items, after_comma, after_item, begins, one_too_many}

-- with items that were read before
abbrev pub carried : {A : Type 0} → List A → Result (List A × List ℕ) Stop → Result (List A × List ℕ) Stop
carried done r = r then λ q. Ok (done ++ q.0, q.1)

carried_twice : {A : Type 0} (done : List A) (x : A) (r : Result (List A × List ℕ) Stop) → carried (done ++ x ∷ []) r ≡ carried done (r then λ q. Ok (x ∷ q.0, q.1))
carried_twice done x (Ok q) = ap (λ xs. Ok (xs, q.1)) (append_assoc done (x ∷ []) q.0)
carried_twice done x (Err stop) = refl

pub carried_none : {A : Type 0} (r : Result (List A × List ℕ) Stop) → carried [] r ≡ r
carried_none (Ok q) = refl
carried_none (Err stop) = refl

module _ {A : Type 0} (item : List ℕ → Result (A × List ℕ) ℕ) where
  pub none_left : (t : List ℕ) → items item 0 t ≡ Err (one_too_many (begins t (item t)) t)
  unfolding items
  none_left t = refl

  some_left : (n : ℕ) (t : List ℕ) → n < 1000 → items item (1000 - n) t ≡ (texted (item t) then λ p. after_item (items item (1000 - (n + 1))) p.0 p.1 (after_comma p.1))
  unfolding items
  some_left n t low = let e : 1000 - n ≡ suc (1000 - (n + 1)) = omega arith in rw e refl

  module _ (n : ℕ) (t : List ℕ) (done : List A) (all : Result (List A × List ℕ) Stop) (so_far : carried done (items item (1000 - n) t) ≡ all) where
    pub too_many : 1000 ≤ n → all ≡ Err (one_too_many (begins t (item t)) t)
    too_many most =
        let none : 1000 - n ≡ 0 = omega arith in
        sym so_far ∙ (ap (λ m. carried done (items item m t)) none ∙ ap (carried done) (none_left t))

    one_more : n < 1000 → carried done (texted (item t) then λ p. after_item (items item (1000 - (n + 1))) p.0 p.1 (after_comma p.1)) ≡ all
    one_more low = ap (carried done) (sym (some_left n t low)) ∙ so_far

    pub no_item : (left : ℕ) → n < 1000 → item t ≡ Err left → all ≡ Err (Text left)
    no_item left low stops = sym (one_more low) ∙ ap (λ r. carried done (texted r then λ p. after_item (items item (1000 - (n + 1))) p.0 p.1 (after_comma p.1))) stops

    last_or_more : (x : A) (rest : List ℕ) (o : Option (List ℕ)) → n < 1000 → item t ≡ Ok (x, rest) → after_comma rest ≡ o → carried done (after_item (items item (1000 - (n + 1))) x rest o) ≡ all
    last_or_more x rest o low reads comma =
        ap (λ o. carried done (after_item (items item (1000 - (n + 1))) x rest o)) (sym comma)
        ∙ (ap (λ r. carried done (texted r then λ p. after_item (items item (1000 - (n + 1))) p.0 p.1 (after_comma p.1))) (sym reads) ∙ one_more low)

    pub last_item : (x : A) (rest : List ℕ) → n < 1000 → item t ≡ Ok (x, rest) → None ≡ after_comma rest → all ≡ Ok (done ++ x ∷ [], rest)
    last_item x rest low reads comma = sym (last_or_more x rest None low reads (sym comma))

    pub next_item : (x : A) (rest next : List ℕ) → n < 1000 → item t ≡ Ok (x, rest) → Some next ≡ after_comma rest → carried (done ++ x ∷ []) (items item (1000 - (n + 1)) next) ≡ all
    next_item x rest next low reads comma =
        carried_twice done x (items item (1000 - (n + 1)) next) ∙ last_or_more x rest (Some next) low reads (sym comma)
