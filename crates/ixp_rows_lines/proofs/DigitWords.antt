-- Words that are digits.
use Rattle.std.proofs.Common.{◌≡◌, ◌∷◌, [], decimal, arith}
use Rattle.std.proofs.lemmas.Fmt.{decimal_digit}

pub digit_1 : decimal 1 ≡ 49 ∷ []
digit_1 = decimal_digit 1 (omega arith)

pub digit_2 : decimal 2 ≡ 50 ∷ []
digit_2 = decimal_digit 2 (omega arith)

pub digit_3 : decimal 3 ≡ 51 ∷ []
digit_3 = decimal_digit 3 (omega arith)
