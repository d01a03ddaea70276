-- Bytes of items, joined.
use Rattle.std.proofs.Common.{◌≡◌, ◌+◌, ◌<◌, ℕ, List, [], ◌∷◌, ◌++◌, length, get_or, take, Option, Result, Ok, Err, OnOk, sym, ap, ◌∙◌, subst, append_assoc}
use Rattle.std.specs.List.{flat_map}
use Rattle.std.proofs.lemmas.Grind.{flat_map-append}
use Rattle.std.proofs.lemmas.List.{flat_map_more, take_more, append-nil}
use Rattle.ixp_io.specs.Told.{Takes}
use Rattle.ixp_io.proofs.Streams.{Takes-then}
use Rattle.ixp_rtr.specs.declared.pdu.Pdu.{Pdu}
use Rattle.ixp_rtr.specs.declared.pdu.Pdu.TheVariants.{CacheResponse, EndOfData}
use Rattle.ixp_rtr.specs.Pdus.{pdu_bytes, pdus_bytes}
use Rattle.ixp_rtr.specs.Answers.{between}

-- one item more
pub joined_more : {X : Type 0} (f : X → List ℕ) (xs : List X) (i : ℕ) (d : X) → i < length xs → flat_map f (take (i + 1) xs) ≡ flat_map f (take i xs) ++ f (get_or xs i d)
joined_more f xs i d less = ap (flat_map f) (take_more xs i d less) ∙ sym (flat_map_more f [] (take i xs) (get_or xs i d))

-- two writes, of which the second may fail
pub then_ok : {A E : Type 0} (r : Result A E) (a b c : Option (List ℕ)) (x y all : List ℕ) → Takes a b x → OnOk r (Takes b c y) → x ++ y ≡ all → OnOk r (Takes a c all)
then_ok (Ok v) a b c x y all p q is = subst (Takes a c) is (Takes-then a b c x y p q)
then_ok (Err e) a b c x y all p q is = tt

-- the bytes of PDUs between Cache Response and End of Data
pub between_bytes : (session serial : ℕ) (pdus : List Pdu)
    → (pdu_bytes (CacheResponse session) ++ pdus_bytes pdus) ++ pdu_bytes (EndOfData session serial) ≡ pdus_bytes (between session serial pdus)
between_bytes session serial pdus =
    let first = pdu_bytes (CacheResponse session) in
    let last = pdu_bytes (EndOfData session serial) in
    append_assoc first (pdus_bytes pdus) last
    ∙ ap (λ (t : List ℕ). first ++ t)
    (ap (λ (t : List ℕ). pdus_bytes pdus ++ t) (sym (append-nil last)) ∙ sym (flat_map-append pdu_bytes pdus (EndOfData session serial ∷ [])))

-- PDUs that were written between Cache Response and End of Data, of which the last may fail
pub between_written : {A E : Type 0} (r : Result A E) (a b c d : Option (List ℕ)) (session serial : ℕ) (pdus : List Pdu)
    → Takes a b (pdu_bytes (CacheResponse session)) → Takes b c (pdus_bytes pdus) → OnOk r (Takes c d (pdu_bytes (EndOfData session serial)))
    → OnOk r (Takes a d (pdus_bytes (between session serial pdus)))
between_written r a b c d session serial pdus p q end =
    let first = pdu_bytes (CacheResponse session) in
    then_ok r a c d (first ++ pdus_bytes pdus) (pdu_bytes (EndOfData session serial)) (pdus_bytes (between session serial pdus))
    (Takes-then a b c first (pdus_bytes pdus) p q) end (between_bytes session serial pdus)

-- the bytes of one PDU
pub one_bytes : (pdu : Pdu) → pdu_bytes pdu ≡ pdus_bytes (pdu ∷ [])
one_bytes pdu = sym (append-nil (pdu_bytes pdu))
