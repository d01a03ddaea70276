-- What the other sessions get, session by session.
use Rattle.std.proofs.Common.{◌≡◌, Bool, true, ◌&&◌, List, [], ◌∷◌, ◌++◌, append_assoc, map, filter, sym, ap, ◌∙◌, if◌then◌else◌}
use Rattle.std.proofs.lemmas.Bool.{and_parts}

-- what the next item that passes both tests adds
pub one_more : {X Y : Type 0} (f : X → Y) (g h : X → Bool) (x : X) (rest : List X) (sent : List Y) → (h x && g x) ≡ true
    → (sent ++ f x ∷ []) ++ map f (filter g (filter h rest)) ≡ sent ++ map f (filter g (filter h (x ∷ rest)))
one_more f g h x rest sent both =
    let parts = and_parts (h x) (g x) both in
    append_assoc sent (f x ∷ []) (map f (filter g (filter h rest)))
    ∙ sym (ap (λ b. sent ++ map f (filter g (if b then x ∷ filter h rest else filter h rest))) parts.0
    ∙ ap (λ b. sent ++ map f (if b then x ∷ filter g (filter h rest) else filter g (filter h rest))) parts.1)
