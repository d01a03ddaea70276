-- The lines of some kinds tell the rows of each.
use Rattle.std.proofs.Common.{◌≡◌, ℕ, suc, ◌<◌, List, [], ◌∷◌, ◌++◌, length, map, refl, sym, ap, ◌∙◌, subst, arith}
use Rattle.std.specs.List.{AllByRecursion}
use Rattle.ixp_registry.specs.declared.kind.Kind.{Kind}
use Rattle.ixp_rows_lines.specs.declared.version.Version.{Version}
use Rattle.ixp_rows_lines.specs.Fields.{Field}
use Rattle.ixp_rows_lines.specs.Lines.{Line, place_of}
use Rattle.ixp_rows.proofs.Standing.{line_of, section_lines, Consecutive}

-- all lines are of kinds behind a place
abbrev Behind : ℕ → List Line → Type 0
Behind place ls = AllByRecursion (λ l. place < place_of l.kind) ls

behind_more : (kind : Kind) (place : ℕ) → place < place_of kind → (rows : List (List Field)) (ls : List Line) → Behind (suc place) ls → Behind place (map (line_of kind) rows ++ ls)
behind_more kind place low [] ls all = weaker ls all
  where
    weaker : (ls : List Line) → Behind (suc place) ls → Behind place ls
    weaker [] all = tt
    weaker (l ∷ ls) all = (omega (arith, all.0), weaker ls all.1)
behind_more kind place low (row ∷ rows) ls all = (low, behind_more kind place low rows ls all)

sections_behind : (version : Version) (t : List ℕ) (kinds : List Kind) (bound : ℕ) → Consecutive version t bound kinds → (xss : List (List (List Field))) → Behind bound (section_lines kinds xss)
sections_behind version t [] bound next xss = tt
sections_behind version t (kind ∷ kinds) bound next [] = tt
sections_behind version t (kind ∷ kinds) bound next (rows ∷ xss) =
    behind_more kind bound (omega (arith, next.0)) rows (section_lines kinds xss) (sections_behind version t kinds (suc bound) next.1 xss)

not_behind : (kind : Kind) (row : List Field) (ls more : List Line) → Behind (place_of kind) ls → ls ≡ line_of kind row ∷ more → ⊥
not_behind kind row ls more all e = absurd (let low = (subst (Behind (place_of kind)) e all).0 in omega arith)

-- lines of one kind before lines of kinds behind it
parted : (kind : Kind) (xs ys : List (List Field)) (ls ms : List Line) → Behind (place_of kind) ls → Behind (place_of kind) ms → map (line_of kind) xs ++ ls ≡ map (line_of kind) ys ++ ms → (xs ≡ ys) × (ls ≡ ms)
parted kind [] [] ls ms here there e = (refl, e)
parted kind [] (y ∷ ys) ls ms here there e = absurd (not_behind kind y ls (map (line_of kind) ys ++ ms) here e)
parted kind (x ∷ xs) [] ls ms here there e = absurd (not_behind kind x ms (map (line_of kind) xs ++ ls) there (sym e))
parted kind (x ∷ xs) (y ∷ ys) ls ms here there e =
    let first : line_of kind x ≡ line_of kind y = first_of (line_of kind x) (line_of kind y) (map (line_of kind) xs ++ ls) (map (line_of kind) ys ++ ms) e in
    let others = others_of (line_of kind x) (line_of kind y) (map (line_of kind) xs ++ ls) (map (line_of kind) ys ++ ms) e in
    let rest = parted kind xs ys ls ms here there others in
    (ap (λ z. z ∷ xs) (ap (λ l. l.fields) first) ∙ ap (λ zs. y ∷ zs) rest.0, rest.1)
  where
    first_of : (l m : Line) (ls ms : List Line) → l ∷ ls ≡ m ∷ ms → l ≡ m
    first_of l m ls ms e = cc

    others_of : (l m : Line) (ls ms : List Line) → l ∷ ls ≡ m ∷ ms → ls ≡ ms
    others_of l m ls ms e = cc

-- the lines of some kinds tell the rows of each
pub sections_same : (version : Version) (t : List ℕ) (kinds : List Kind) (bound : ℕ) → Consecutive version t bound kinds → (xss yss : List (List (List Field))) → length xss ≡ length kinds → length yss ≡ length kinds
    → section_lines kinds xss ≡ section_lines kinds yss → xss ≡ yss
sections_same version t [] bound next [] [] here there e = refl
sections_same version t [] bound next (xs ∷ xss) yss here there e = absurd (omega (arith, here))
sections_same version t [] bound next [] (ys ∷ yss) here there e = absurd (omega (arith, there))
sections_same version t (kind ∷ kinds) bound next [] yss here there e = absurd (omega (arith, here))
sections_same version t (kind ∷ kinds) bound next (xs ∷ xss) [] here there e = absurd (omega (arith, there))
sections_same version t (kind ∷ kinds) bound next (xs ∷ xss) (ys ∷ yss) here there e =
    let place = sym next.0 in
    let parts =
    parted kind xs ys (section_lines kinds xss) (section_lines kinds yss)
    (subst (λ p. Behind p (section_lines kinds xss)) place (sections_behind version t kinds (suc bound) next.1 xss))
    (subst (λ p. Behind p (section_lines kinds yss)) place (sections_behind version t kinds (suc bound) next.1 yss)) e in
    ap (λ z. z ∷ xss) parts.0 ∙ ap (λ zs. ys ∷ zs) (sections_same version t kinds (suc bound) next.1 xss yss (omega (arith, here)) (omega (arith, there)) parts.1)
