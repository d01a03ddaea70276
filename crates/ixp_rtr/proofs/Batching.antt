-- What a batch holds stands behind what was written.
use Rattle.std.proofs.Common.{◌≡◌, ℕ, List, [], ◌++◌, Option, None, Some, refl, sym, ap, ◌∙◌, subst, append_assoc}
use Rattle.std.proofs.lemmas.List.{append-nil}
use Rattle.ixp_io.specs.Told.{Takes}
use Rattle.ixp_rtr.specs.Batches.{gathered}

-- nothing is held
pub gathered_none : (a : Option (List ℕ)) → gathered a [] ≡ a
unfolding gathered
gathered_none None = refl
gathered_none (Some u) = ap Some (append-nil u)

-- more is held
pub gathered_more : (a : Option (List ℕ)) (held bytes : List ℕ) → Takes (gathered a held) (gathered a (held ++ bytes)) bytes
unfolding gathered
gathered_more None held bytes = tt
gathered_more (Some u) held bytes = sym (append_assoc u held bytes)

-- the first bytes are held
pub gathered_first : (a : Option (List ℕ)) (bytes : List ℕ) → Takes a (gathered a bytes) bytes
unfolding gathered
gathered_first None bytes = tt
gathered_first (Some u) bytes = refl

-- what was held is written
pub gathered_written : (a b : Option (List ℕ)) (held : List ℕ) → Takes a b held → b ≡ gathered a held
unfolding gathered
gathered_written None None held takes = refl
gathered_written None (Some v) held takes = absurd takes
gathered_written (Some u) None held takes = absurd takes
gathered_written (Some u) (Some v) held takes = ap Some takes

-- all that was gathered since nothing was held is written
pub all_written : (a b c : Option (List ℕ)) (none held bytes : List ℕ) → none ≡ [] → Takes (gathered a none) (gathered b held) bytes → c ≡ gathered b held → Takes a c bytes
all_written a b c none held bytes is takes written =
    subst (λ from. Takes from c bytes) (ap (gathered a) is ∙ gathered_none a) (subst (λ to. Takes (gathered a none) to bytes) (sym written) takes)
