-- Bytes have one reading.
use Rattle.std.proofs.Common.{◌≡◌, ℕ, ◌+◌, List, [], ◌∷◌, take, drop, refl, sym, ap, ◌∙◌, subst}
use mathlib.Core.Logic.{inl, inr}
use Rattle.httparse.proofs.GrammarLemmas.{request_unique}
use Rattle.ixp_http.specs.declared.head.Start.{Start}
use Rattle.ixp_http.specs.declared.head.Start.TheVariants.{Over, Between, Inside, Headed}
use Rattle.ixp_http.specs.declared.request.Head.{Head}
use Rattle.ixp_http.specs.Heads.{start_of}
use Rattle.ixp_http.specs.Fields.{need_of}
use Rattle.ixp_http.specs.Messages.{Reading, message, Begins, First, IsEnd, IsHead, parts_of, with_need, Messages, OneReading}

pub head_unique : (bytes : List ℕ) (a b : Head) → IsHead bytes a → IsHead bytes b → a ≡ b
head_unique bytes a b p q = p.2 ∙ ap parts_of (request_unique bytes p.0 q.0 [] [] p.1 q.1).0 ∙ sym q.2

begins_unique : (bytes : List ℕ) (s : Start) (x y : Reading) → Begins bytes s x → Begins bytes s y → x ≡ y
begins_unique bytes Over x y p q = p ∙ sym q
begins_unique bytes Between x y p q = p ∙ sym q
begins_unique bytes Inside x y p q = p ∙ sym q
begins_unique bytes (Headed from n) x y (inl a) (inl b) =
    let same = head_unique (take n (drop from bytes)) a.0 b.0 a.1 b.1 in
    a.2 ∙ ap (λ (head : Head). with_need head (need_of head.fields) (drop (from + n) bytes)) same ∙ sym b.2
begins_unique bytes (Headed from n) x y (inl a) (inr b) = absurd (b.0 a.1.0 [] a.1.1)
begins_unique bytes (Headed from n) x y (inr a) (inl b) = absurd (a.0 b.1.0 [] b.1.1)
begins_unique bytes (Headed from n) x y (inr a) (inr b) = a.1 ∙ sym b.1

pub first_unique : (bytes : List ℕ) (x y : Reading) → First bytes x → First bytes y → x ≡ y
first_unique bytes x y p q = begins_unique bytes (start_of bytes) x y p q

pub one_reading : OneReading
one_reading bytes [] [] end last p q = (refl, first_unique bytes end last p.0 q.0)
one_reading bytes [] (r ∷ rs) end last p q =
    absurd (subst IsEnd (first_unique bytes end (message r q.0) p.0 q.1) p.1)
one_reading bytes (r ∷ rs) [] end last p q =
    absurd (subst IsEnd (first_unique bytes last (message r p.0) q.0 p.1) q.1)
one_reading bytes (r ∷ rs) (s ∷ ss) end last p q =
    let same = first_unique bytes (message r p.0) (message s q.0) p.1 q.1 in
    let one : r ≡ s = cc in
    let rest : p.0 ≡ q.0 = cc in
    let more = one_reading q.0 rs ss end last (subst (λ (t : List ℕ). Messages t rs end) rest p.2) q.2 in
    (cc (one, more.0), more.1)
