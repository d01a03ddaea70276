-- Whole requests are all answered, where nothing fails.
use Rattle.std.proofs.Common.{◌≡◌, ◌+◌, ◌<◌, ℕ, suc, Bool, true, false, ◌&&◌, ◌||◌, ◌==◌, not, if◌then◌else◌, Option, None, Some, List, [], ◌∷◌, ◌++◌, length, refl, sym, ap, ◌∙◌, subst, inl, inr, arith}
use Rattle.std.proofs.lemmas.List.{append-nil}
use Rattle.ixp_io.specs.Told.{WhereTold, Takes}
use Rattle.ixp_http.specs.Messages.{closed}
use Rattle.ixp_http.specs.declared.request.Request.{Request}
use Rattle.ixp_api_replies.specs.declared.outcome.Outcome.{Outcome}
use Rattle.ixp_api.specs.declared.call.Call.{Call}
use Rattle.ixp_http_link.specs.declared.ends.LinkEnd.{LinkEnd}
use Rattle.ixp_http_link.specs.declared.ends.LinkEnd.TheVariants.{Closed, BadMessage, Cut, Spent, ReadFault, WriteFault, NoMemory}
use Rattle.ixp_http_link.specs.declared.ends.Served.{Served}
use Rattle.ixp_http_link.specs.Turns.{Exchange, GoesOn}
use Rattle.ixp_http_link.specs.Links.{request_limit, ends_at, Behind, Wrote, Ends, Serves}
use Rattle.ixp_http_link.specs.Whole.{ended_with, served_from, heeded, last_text, requests_of, AnswersAll, reply_texts, only_last_closes, AllAnswered, IsComplete}
use Rattle.ixp_http_link.proofs.Wholes.{if_true, if_false, goes_at, exact_ends}

abbrev made : LinkEnd → ℕ → Served
made end m = record { end = end; requests = m }

-- below the limit a link ends with a request that asks to close, and with no other one
last_served : (n : ℕ) (c b : Bool) → b ≡ c → (if b then made (if c then Closed else Spent) (n + 1) else made Closed (n + 1)) ≡ made Closed (n + 1)
last_served n true b p = if_true b (made Closed (n + 1)) (made Closed (n + 1)) p
last_served n false b p = if_false b (made Spent (n + 1)) (made Closed (n + 1)) p

either_list : {A : Type 0} (b : Bool) (x : List A) → (if b then x else x) ≡ x
either_list true x = refl
either_list false x = refl

closes_at : (b : Bool) (n : ℕ) → n + 1 < 100000 → (b || n + 1 == 100000) ≡ b
closes_at true n p = refl
closes_at false n p = goes_at false n refl p

first_stays : (a b : Bool) → (not a && b) ≡ true → a ≡ false
first_stays true b p = absurd (cc (p))
first_stays false b p = refl

others_too : (a b : Bool) → (not a && b) ≡ true → b ≡ true
others_too true b p = absurd (cc (p))
others_too false b p = p

whole_served : (n : ℕ) (rs : List Request) → n + length rs < 100000 → only_last_closes rs ≡ true → served_from n rs closed ≡ made Closed (n + length rs)
whole_served n [] p q = ap (λ (m : ℕ). made Closed m) (omega arith)
whole_served n (r ∷ []) p q =
    let below : n + 1 < 100000 = omega arith in
    let one : n + 1 ≡ n + suc 0 = omega arith in
    last_served n r.closes (ends_at n r) (closes_at r.closes n below) ∙ ap (λ (m : ℕ). made Closed m) one
whole_served n (r ∷ s ∷ rs) p q =
    let below : n + 1 < 100000 = omega arith in
    let later : (n + 1) + length (s ∷ rs) < 100000 = omega arith in
    let same : (n + 1) + length (s ∷ rs) ≡ n + length (r ∷ s ∷ rs) = omega arith in
    if_false (ends_at n r) (ended_with n r) (served_from (n + 1) (s ∷ rs) closed) (goes_at r.closes n (first_stays r.closes _ q) below)
    ∙ whole_served (n + 1) (s ∷ rs) later (others_too r.closes _ q) ∙ ap (λ (m : ℕ). made Closed m) same

whole_heeded : (n : ℕ) (rs : List Request) → n + length rs < 100000 → only_last_closes rs ≡ true → heeded n rs ≡ rs
whole_heeded n [] p q = refl
whole_heeded n (r ∷ []) p q = ap (λ (ts : List Request). r ∷ ts) (either_list (ends_at n r) [])
whole_heeded n (r ∷ s ∷ rs) p q =
    let below : n + 1 < 100000 = omega arith in
    let later : (n + 1) + length (s ∷ rs) < 100000 = omega arith in
    ap (λ (ts : List Request). r ∷ ts)
    (if_false (ends_at n r) [] (heeded (n + 1) (s ∷ rs)) (goes_at r.closes n (first_stays r.closes _ q) below)
    ∙ whole_heeded (n + 1) (s ∷ rs) later (others_too r.closes _ q))

no_last_text : (n : ℕ) (rs : List Request) → last_text n rs closed ≡ []
no_last_text n [] = refl
no_last_text n (r ∷ rs) =
    subst (λ (t : List ℕ). (if ends_at n r then [] else t) ≡ []) (sym (no_last_text (n + 1) rs)) (either_list (ends_at n r) [])

done_by : {D : Type 0} (turn : D → Call → Outcome → D → Type 0) (d e : D) (written now : Option (List ℕ)) (rs : List Request) (served : Served)
    → length rs < 100000 → only_last_closes rs ≡ true
    → (served ≡ served_from 0 rs closed)
    × ((xs : List Exchange) × (requests_of xs ≡ heeded 0 rs) × AnswersAll turn d xs e
    × Takes written now (reply_texts 0 xs ++ last_text 0 rs closed))
    → AllAnswered turn d e written now rs served
done_by turn d e written now rs served few only w =
    let below : 0 + length rs < 100000 = omega arith in
    let all : 0 + length rs ≡ length rs = omega arith in
    let is : served ≡ made Closed (0 + length rs) = w.0 ∙ whole_served 0 rs below only in (
      ap (λ (s : Served). s.end) is,
      ap (λ (s : Served). s.requests) is ∙ all,
      (
        w.1.0,
        w.1.1 ∙ whole_heeded 0 rs below only,
        w.1.2,
        subst (λ (t : List ℕ). Takes written now t) (append-nil (reply_texts 0 w.1.0))
            (subst (λ (t : List ℕ). Takes written now (reply_texts 0 w.1.0 ++ t)) (no_last_text 0 rs) w.1.3),
      ),
    )

complete_ends : {D : Type 0} (turn : D → Call → Outcome → D → Type 0) (d mid e : D) (bytes : List ℕ) (written now : Option (List ℕ)) (xs : List Exchange)
    (A B : Type 0) (end : LinkEnd) (m : ℕ)
    → GoesOn turn d xs mid → length xs < request_limit
    → Ends turn (length xs) mid e (Behind (Some bytes) xs) (Wrote written now xs) A B end m
    → IsComplete turn d e bytes written now A B (made end m)
complete_ends turn d mid e bytes written now xs A B ReadFault m goes less ends = λ rs msgs few only unread unwritten. absurd (unread ends.0)
complete_ends turn d mid e bytes written now xs A B WriteFault m goes less ends = λ rs msgs few only unread unwritten. absurd (unwritten ends.0)
complete_ends turn d mid e bytes written now xs A B NoMemory m goes less ends = λ rs msgs few only unread unwritten. inl refl
complete_ends turn d mid e bytes written now xs A B Closed m goes less ends = λ rs msgs few only unread unwritten.
    inr (done_by turn d e written now rs (made Closed m) few only (exact_ends turn d mid e bytes written now xs A B Closed m goes less ends rs closed msgs refl))
complete_ends turn d mid e bytes written now xs A B (BadMessage status) m goes less ends = λ rs msgs few only unread unwritten.
    inr (done_by turn d e written now rs (made (BadMessage status) m) few only
    (exact_ends turn d mid e bytes written now xs A B (BadMessage status) m goes less ends rs closed msgs refl))
complete_ends turn d mid e bytes written now xs A B Cut m goes less ends = λ rs msgs few only unread unwritten.
    inr (done_by turn d e written now rs (made Cut m) few only (exact_ends turn d mid e bytes written now xs A B Cut m goes less ends rs closed msgs refl))
complete_ends turn d mid e bytes written now xs A B Spent m goes less ends = λ rs msgs few only unread unwritten.
    inr (done_by turn d e written now rs (made Spent m) few only (exact_ends turn d mid e bytes written now xs A B Spent m goes less ends rs closed msgs refl))

-- what was done on a link is complete
pub complete : {D : Type 0} (turn : D → Call → Outcome → D → Type 0) (d e : D) (left written now : Option (List ℕ)) (A B : Type 0) (served : Served)
    → Serves turn d e left written now A B served → WhereTold left (λ bytes. IsComplete turn d e bytes written now A B served)
complete turn d e None written now A B served p = tt
complete turn d e (Some bytes) written now A B served p =
    complete_ends turn d p.mid e bytes written now p.xs A B served.end served.requests p.goes p.few p.ends
