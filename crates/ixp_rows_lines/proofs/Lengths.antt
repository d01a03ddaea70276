-- What is behind a line is shorter than the text.
use Rattle.std.proofs.Common.{◌≡◌, ℕ, suc, ◌<◌, ◌≤◌, Bool, true, false, ◌==◌, List, [], ◌∷◌, length, length-drop, Option, Some, None, subst, arith, if◌then◌else◌}
use Rattle.std.specs.List.{position}
use Rattle.ixp_rows_lines.specs.Fields.{Field, Piece, is_break}
use Rattle.ixp_rows_lines.specs.Reading.{◌>>=◌, parted_at, field_at, end_at, value_of, piece_at, fields_at}

-- what is left, if anything was read, has less than n bytes
abbrev pub Leaves : {A : Type 0} → ℕ → Option (A × List ℕ) → Type 0
Leaves n None = Unit {0}
Leaves n (Some x) = length x.1 < n

abbrev EndLeaves : ℕ → Option (List ℕ) → Type 0
EndLeaves n None = Unit {0}
EndLeaves n (Some rest) = length rest < n

parted_short : (t : List ℕ) (o : Option ℕ) → length (parted_at o t).1 ≤ length t
parted_short t None = omega arith
parted_short t (Some n) = let e = length-drop n t in omega (arith, e)

pub field_short : (t : List ℕ) → Leaves (length t) (field_at t)
unfolding field_at
field_short [] = tt
field_short (c ∷ t) = by_test (c == 32)
  where
    by_test : (b : Bool) → Leaves (suc (length t)) (if b then Some (parted_at (position is_break t) t) else None)
    by_test true = let short = parted_short t (position is_break t) in omega (arith, short)
    by_test false = tt

end_short : (t : List ℕ) → EndLeaves (length t) (end_at t)
unfolding end_at
end_short [] = tt
end_short (c ∷ t) = by_test (c == 10)
  where
    by_test : (b : Bool) → EndLeaves (suc (length t)) (if b then Some t else None)
    by_test true = omega arith
    by_test false = tt

valued_short : (n : ℕ) (rest : List ℕ) (v : Option Field) → length rest < n → Leaves n (v >>= λ field. Some (field, rest))
valued_short n rest None short = tt
valued_short n rest (Some field) short = short

parts_short : (p : Piece) (n : ℕ) (r : Option (List ℕ × List ℕ)) → Leaves n r → Leaves n (r >>= λ f. value_of p f.0 >>= λ field. Some (field, f.1))
parts_short p n None short = tt
parts_short p n (Some f) short = valued_short n f.1 (value_of p f.0) short

pub piece_short : (p : Piece) (t : List ℕ) → Leaves (length t) (piece_at p t)
piece_short p t = parts_short p (length t) (field_at t) (field_short t)

ended_short : (n : ℕ) (r : Option (List ℕ)) → EndLeaves n r → Leaves {A = List Field} n (r >>= λ rest. Some ([], rest))
ended_short n None short = tt
ended_short n (Some rest) short = short

joined_short : (n m : ℕ) (field : Field) (r : Option (List Field × List ℕ)) → m < n → Leaves m r → Leaves n (r >>= λ fs. Some (field ∷ fs.0, fs.1))
joined_short n m field None less short = tt
joined_short n m field (Some fs) less short = omega (arith, less, short)

more_short : (form : List Piece) (n : ℕ) (r : Option (Field × List ℕ)) → Leaves n r → ((t : List ℕ) → Leaves (length t) (fields_at form t)) → Leaves n (r >>= λ f. fields_at form f.1 >>= λ fs. Some (f.0 ∷ fs.0, fs.1))
more_short form n None short again = tt
more_short form n (Some f) short again = joined_short n (length f.1) f.0 (fields_at form f.1) short (again f.1)

pub fields_short : (form : List Piece) (t : List ℕ) → Leaves (length t) (fields_at form t)
fields_short [] t = ended_short (length t) (end_at t) (end_short t)
fields_short (p ∷ form) t = more_short form (length t) (piece_at p t) (piece_short p t) (fields_short form)

pub fields_less : (form : List Piece) (t : List ℕ) (fs : List Field) (more : List ℕ) → fields_at form t ≡ Some (fs, more) → length more < length t
fields_less form t fs more e = subst (Leaves (length t)) e (fields_short form t)
