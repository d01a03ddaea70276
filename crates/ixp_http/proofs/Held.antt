-- Where a whole message is held, nothing is to be read.
use Rattle.std.proofs.Common.{◌≡◌, ◌≤◌, ℕ, ◌+◌, Bool, true, false, nat_le, List, length, take, drop, refl, ap, ◌∙◌, if◌then◌else◌, arith}
use mathlib.Core.Logic.{inl, inr}
use Rattle.std.proofs.lemmas.Bool.{leb-true}
use Rattle.std.proofs.lemmas.List.{length-drop}
use Rattle.ixp_http.specs.declared.head.Start.{Start}
use Rattle.ixp_http.specs.declared.head.Start.TheVariants.{Over, Between, Inside, Headed}
use Rattle.ixp_http.specs.declared.fields.Need.{Need}
use Rattle.ixp_http.specs.declared.fields.Need.TheVariants.{Body}
use Rattle.ixp_http.specs.declared.request.Head.{Head}
use Rattle.ixp_http.specs.declared.request.Request.{Request}
use Rattle.ixp_http.specs.Fields.{need_of}
use Rattle.ixp_http.specs.Heads.{is_open, start_of}
use Rattle.ixp_http.specs.Messages.{message, cut, Begins, First, IsHead, request_of, with_need}
use Rattle.ixp_http.proofs.Readings.{head_unique}

by_start : (bytes : List ℕ) (r : Request) (rest : List ℕ) (s : Start) → Begins bytes s (message r rest) → is_open s ≡ false
by_start bytes r rest Over is = refl
by_start bytes r rest Between is = absurd (let bad : ⊥ = cc in bad)
by_start bytes r rest Inside is = absurd (let bad : ⊥ = cc in bad)
by_start bytes r rest (Headed from n) is = refl

-- more bytes don't change what stands first
pub message_settled : (bytes : List ℕ) (r : Request) (rest : List ℕ) → First bytes (message r rest) → is_open (start_of bytes) ≡ false
message_settled bytes r rest first = by_start bytes r rest (start_of bytes) first

room_of : (h : Head) (size at : ℕ) (bytes : List ℕ) (r : Request) (rest : List ℕ) (b : Bool) → nat_le size (length (drop at bytes)) ≡ b → at ≤ length bytes
    → message r rest ≡ (if b then message (request_of h (take size (drop at bytes))) (drop size (drop at bytes)) else cut) → at + size ≤ length bytes
room_of h size at bytes r rest true e fits is = omega (arith, fits, leb-true size (length (drop at bytes)) e, length-drop at bytes)
room_of h size at bytes r rest false e fits is = absurd (let bad : ⊥ = cc in bad)

-- and the body is there
pub body_held : (bytes : List ℕ) (from n size : ℕ) (head : Head) (r : Request) (rest : List ℕ) → IsHead (take n (drop from bytes)) head → need_of head.fields ≡ Body size
    → from + n ≤ length bytes → Begins bytes (Headed from n) (message r rest) → (from + n) + size ≤ length bytes
body_held bytes from n size head r rest is need fits (inl (h, there, e)) =
    let same : h ≡ head = head_unique (take n (drop from bytes)) h head there is in
    let needs : need_of h.fields ≡ Body size = ap (λ (x : Head). need_of x.fields) same ∙ need in
    room_of h size (from + n) bytes r rest (nat_le size (length (drop (from + n) bytes))) refl fits
    (e ∙ ap (λ (d : Need). with_need h d (drop (from + n) bytes)) needs)
body_held bytes from n size head r rest is need fits (inr none) = absurd (let bad : ⊥ = cc in bad)
