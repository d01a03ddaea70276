-- Words that are too few or too many for a command.
use Rattle.std.proofs.Common.{◌≡◌, ◌<◌, ◌≤◌, ℕ, Bor, List, [], ◌∷◌, length, map, Option, None, refl, arith}
use Rattle.ixp_cli_plain.specs.declared.command.Command.{Command}
use Rattle.ixp_cli_plain.specs.Runs.{command_in}

abbrev IsNone : List (Bor (List ℕ)) → Type 0
IsNone ws = ◌≡◌ {A = Option Command} None (command_in (map (λ (w : Bor (List ℕ)). w.now) ws))

pub none_at_all : (ws : List (Bor (List ℕ))) → length ws < 1 → IsNone ws
none_at_all [] few = refl
none_at_all (a ∷ ws) few = absurd (omega (arith, few))

pub three_words : (ws : List (Bor (List ℕ))) → 3 ≤ length ws → length ws < 4 → IsNone ws
three_words [] many few = absurd (omega (arith, many))
three_words (a ∷ []) many few = absurd (omega (arith, many))
three_words (a ∷ b ∷ []) many few = absurd (omega (arith, many))
three_words (a ∷ b ∷ c ∷ []) many few = refl
three_words (a ∷ b ∷ c ∷ d ∷ ws) many few = absurd (omega (arith, few))

pub five_or_six : (ws : List (Bor (List ℕ))) → 5 ≤ length ws → length ws < 7 → IsNone ws
five_or_six [] many few = absurd (omega (arith, many))
five_or_six (a ∷ []) many few = absurd (omega (arith, many))
five_or_six (a ∷ b ∷ []) many few = absurd (omega (arith, many))
five_or_six (a ∷ b ∷ c ∷ []) many few = absurd (omega (arith, many))
five_or_six (a ∷ b ∷ c ∷ d ∷ []) many few = absurd (omega (arith, many))
five_or_six (a ∷ b ∷ c ∷ d ∷ e ∷ []) many few = refl
five_or_six (a ∷ b ∷ c ∷ d ∷ e ∷ f ∷ []) many few = refl
five_or_six (a ∷ b ∷ c ∷ d ∷ e ∷ f ∷ g ∷ ws) many few = absurd (omega (arith, few))

pub more_words : (ws : List (Bor (List ℕ))) → 8 ≤ length ws → IsNone ws
more_words [] many = absurd (omega (arith, many))
more_words (a ∷ []) many = absurd (omega (arith, many))
more_words (a ∷ b ∷ []) many = absurd (omega (arith, many))
more_words (a ∷ b ∷ c ∷ []) many = absurd (omega (arith, many))
more_words (a ∷ b ∷ c ∷ d ∷ []) many = absurd (omega (arith, many))
more_words (a ∷ b ∷ c ∷ d ∷ e ∷ []) many = absurd (omega (arith, many))
more_words (a ∷ b ∷ c ∷ d ∷ e ∷ f ∷ []) many = absurd (omega (arith, many))
more_words (a ∷ b ∷ c ∷ d ∷ e ∷ f ∷ g ∷ []) many = absurd (omega (arith, many))
more_words (a ∷ b ∷ c ∷ d ∷ e ∷ f ∷ g ∷ h ∷ ws) many = refl
