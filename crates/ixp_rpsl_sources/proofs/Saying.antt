-- What an object says that isn't of its form.
use Rattle.std.proofs.Common.{◌≡◌, ℕ, Bool, true, false, List, Option, Some, None, refl}
use Rattle.ixp_rpsl.specs.Lines.{Line}
use Rattle.ixp_rpsl_sources.specs.Said.{FormedSays, passed_at}
use Rattle.ixp_rpsl_sources.specs.declared.standing.Standing.{Standing}

pub bad_formed : (standing : Standing) (n : Option (List ℕ × List ℕ)) (b : Bool) (first : ℕ) (ls : List Line) → b ≡ true → FormedSays standing n b first ls (passed_at first)
bad_formed standing None b first ls e = refl
bad_formed standing (Some p) true first ls e = refl
bad_formed standing (Some p) false first ls e = absurd (let h : ⊥ = cc in h)

pub nameless : (standing : Standing) (n : Option (List ℕ × List ℕ)) (b : Bool) (first : ℕ) (ls : List Line) → n ≡ None → FormedSays standing n b first ls (passed_at first)
nameless standing None b first ls e = refl
nameless standing (Some p) b first ls e = absurd (let h : ⊥ = cc in h)
