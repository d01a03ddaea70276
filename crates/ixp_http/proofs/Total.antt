-- Bytes can't be without a reading.
use Rattle.std.proofs.Common.{◌≡◌, ◌≤◌, ◌<◌, ◌+◌, ℕ, suc, Bool, true, false, nat_le, if◌then◌else◌, List, [], ◌∷◌, length, take, drop, refl, ap, subst, arith}
use Rattle.std.specs.Prelude.{zero}
use mathlib.Core.Logic.{inl, inr}
use Rattle.std.proofs.lemmas.List.{length-drop}
use Rattle.httparse.specs.Grammar.{RequestHead, ReadsRequest}
use Rattle.ixp_http.specs.declared.head.Start.{Start}
use Rattle.ixp_http.specs.declared.head.Start.TheVariants.{Over, Between, Inside, Headed}
use Rattle.ixp_http.specs.declared.fields.Need.{Need}
use Rattle.ixp_http.specs.declared.fields.Need.TheVariants.{Refused, Body}
use Rattle.ixp_http.specs.declared.request.Head.{Head}
use Rattle.ixp_http.specs.declared.request.Request.{Request}
use Rattle.ixp_http.specs.Fields.{need_of}
use Rattle.ixp_http.specs.Heads.{start_of, IsCut, IsPlaced}
use Rattle.ixp_http.specs.Messages.{Reading, message, closed, cut, bad, Begins, First, HasReading, Messages, parts_of, request_of, with_need}
use Rattle.ixp_http.proofs.Grammar.{whole_head}
use Rattle.ixp_http.proofs.Starts.{placed}

headed : (bytes : List ℕ) (from n : ℕ) → IsPlaced bytes from n → ((x : Reading) → Begins bytes (Headed from n) x → ⊥) → ⊥
headed bytes from n at none =
    none (bad 400) (inr (no_head, refl))
  where
    no_head : (h : RequestHead) (rest : List ℕ) → ReadsRequest (take n (drop from bytes)) h rest → ⊥
    no_head h rest reads =
        let text : List ℕ = take n (drop from bytes) in
        none (with_need (parts_of h) (need_of (parts_of h).fields) (drop (from + n) bytes))
        (inl (parts_of h, (h, subst (λ (t : List ℕ). ReadsRequest text h t) (whole_head text h rest at.cut reads) reads, refl), refl))

begins_some : (bytes : List ℕ) (s : Start) → start_of bytes ≡ s → ((x : Reading) → Begins bytes s x → ⊥) → ⊥
begins_some bytes Over is none = none (bad 431) refl
begins_some bytes Between is none = none closed refl
begins_some bytes Inside is none = none cut refl
begins_some bytes (Headed from n) is none = headed bytes from n (placed bytes from n is) none

body_left : (h : Head) (size : ℕ) (tail : List ℕ) (r : Request) (rest : List ℕ) (b : Bool)
    → message r rest ≡ (if b then message (request_of h (take size tail)) (drop size tail) else cut) → length rest ≤ length tail
body_left h size tail r rest true e =
    let is : rest ≡ drop size tail = cc in
    omega (arith, ap length is, length-drop size tail)
body_left h size tail r rest false e = absurd (let wrong : ⊥ = cc in wrong)

need_left : (h : Head) (need : Need) (tail : List ℕ) (r : Request) (rest : List ℕ) → message r rest ≡ with_need h need tail → length rest ≤ length tail
need_left h (Refused status) tail r rest e = absurd (let wrong : ⊥ = cc in wrong)
need_left h (Body size) tail r rest e = body_left h size tail r rest (nat_le size (length tail)) e

-- a message takes bytes
shorter : (bytes : List ℕ) (s : Start) (r : Request) (rest : List ℕ) → start_of bytes ≡ s → Begins bytes s (message r rest) → length rest < length bytes
shorter bytes Over r rest is begins = absurd (let wrong : ⊥ = cc in wrong)
shorter bytes Between r rest is begins = absurd (let wrong : ⊥ = cc in wrong)
shorter bytes Inside r rest is begins = absurd (let wrong : ⊥ = cc in wrong)
shorter bytes (Headed from n) r rest is (inr none) = absurd (let e = none.1 in let wrong : ⊥ = cc in wrong)
shorter bytes (Headed from n) r rest is (inl (head, found, e)) =
    let at = placed bytes from n is in
    let left : length rest ≤ length (drop (from + n) bytes) = need_left head (need_of head.fields) (drop (from + n) bytes) r rest e in
    omega (arith, left, length-drop (from + n) bytes, at.fits, some n refl)
  where
    some : (k : ℕ) → n ≡ k → 0 < n
    some zero zeros =
        let e = subst (λ (m : ℕ). IsCut (take m (drop from bytes))) zeros (placed bytes from n is).cut [] in
        absurd (let wrong : ⊥ = cc in wrong)
    some (suc k) more = omega (arith, more)

step : (bytes : List ℕ)
    → ((rest : List ℕ) → length rest < length bytes → ((rs : List Request) (end : Reading) → Messages rest rs end → ⊥) → ⊥)
    → ((rs : List Request) (end : Reading) → Messages bytes rs end → ⊥) → (x : Reading) → First bytes x → ⊥
step bytes on none closed first = none [] closed (first, tt)
step bytes on none cut first = none [] cut (first, tt)
step bytes on none (bad status) first = none [] (bad status) (first, tt)
step bytes on none (message r rest) first =
    on rest (shorter bytes (start_of bytes) r rest refl first) (λ rs end read. none (r ∷ rs) end (rest, first, read))

reads : (most : ℕ) (bytes : List ℕ) → length bytes ≤ most → ((rs : List Request) (end : Reading) → Messages bytes rs end → ⊥) → ⊥
reads zero bytes few none =
    begins_some bytes (start_of bytes) refl (step bytes (λ rest less on. absurd (let wrong : ⊥ = omega (arith, few, less) in wrong)) none)
reads (suc more) bytes few none =
    begins_some bytes (start_of bytes) refl (step bytes (λ rest less on. reads more rest (omega (arith, few, less)) on) none)

pub has_reading : HasReading
has_reading bytes none = reads (length bytes) bytes (omega arith) none
