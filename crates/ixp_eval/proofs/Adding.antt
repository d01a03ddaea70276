-- A community that is added.
use Rattle.std.specs.Prelude.{◌≡◌, ℕ, true, false, ◌&&◌, ◌==◌, List, [], ◌∷◌, ◌++◌, refl}
use Rattle.std.specs.List.{list_any}
use Rattle.ixp_lang.specs.declared.route.Route.{Route}
use Rattle.ixp_lang.specs.Attributes.{with_pair, with_triple}
use Rattle.ixp_eval.specs.declared.val.Val.{Val}
use Rattle.ixp_eval.specs.declared.val.Val.TheVariants as val
use Rattle.ixp_eval.specs.Views.{val_of}

pub pair_added : (v : Val) (a b : ℕ) (r : Route) (ps : List (ℕ × ℕ)) → v ≡ val.Pair a b → list_any (λ p. p.0 == a && p.1 == b) r.pairs ≡ false → ps ≡ r.pairs ++ (a, b) ∷ [] →
    record r { pairs = ps } ≡ with_pair (val_of v) r
pair_added v a b r ps p q e = rw (p, q, e) refl

pub pair_kept : (v : Val) (a b : ℕ) (r : Route) → v ≡ val.Pair a b → list_any (λ p. p.0 == a && p.1 == b) r.pairs ≡ true → r ≡ with_pair (val_of v) r
pair_kept v a b r p q = rw (p, q) refl

pub triple_added : (v : Val) (a b c : ℕ) (r : Route) (ts : List (ℕ × ℕ × ℕ)) → v ≡ val.Triple a b c → list_any (λ t. t.0 == a && t.1 == b && t.2 == c) r.triples ≡ false → ts ≡ r.triples ++ (a, b, c) ∷ [] →
    record r { triples = ts } ≡ with_triple (val_of v) r
triple_added v a b c r ts p q e = rw (p, q, e) refl

pub triple_kept : (v : Val) (a b c : ℕ) (r : Route) → v ≡ val.Triple a b c → list_any (λ t. t.0 == a && t.1 == b && t.2 == c) r.triples ≡ true → r ≡ with_triple (val_of v) r
triple_kept v a b c r p q = rw (p, q) refl
