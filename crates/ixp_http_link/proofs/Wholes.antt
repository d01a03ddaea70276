-- The bytes of a link say how it is served.
use Rattle.std.proofs.Common.{◌≡◌, ◌+◌, ◌<◌, ℕ, Bool, true, false, ◌||◌, ◌==◌, if◌then◌else◌, Option, None, Some, List, [], ◌∷◌, ◌++◌, length, append_assoc, refl, sym, ap, ◌∙◌, subst, arith}
use Rattle.std.proofs.lemmas.List.{append-nil}
use Rattle.std.proofs.lemmas.Bool.Decides.{nat_tests}
use Rattle.ixp_io.specs.Told.{WhereTold, Takes}
use Rattle.ixp_http.specs.Messages.{Reading, message, closed, cut, bad, First, IsEnd, Messages}
use Rattle.ixp_http.specs.Replies.{reply_bytes}
use Rattle.ixp_http.specs.declared.request.Request.{Request}
use Rattle.ixp_api_replies.specs.Replies.{reply}
use Rattle.ixp_api_replies.specs.declared.outcome.Outcome.{Outcome}
use Rattle.ixp_api.specs.declared.call.Call.{Call}
use Rattle.ixp_http_link.specs.declared.ends.LinkEnd.{LinkEnd}
use Rattle.ixp_http_link.specs.declared.ends.LinkEnd.TheVariants.{Closed, BadMessage, Cut, Spent, ReadFault, WriteFault, NoMemory}
use Rattle.ixp_http_link.specs.declared.ends.Served.{Served}
use Rattle.ixp_http_link.specs.Turns.{Exchange, Answers, GoesOn}
use Rattle.ixp_http_link.specs.Links.{request_limit, ends_at, closing_if, replies, Reads, Behind, Wrote, EndsBy, Ends, Serves}
use Rattle.ixp_http_link.specs.Whole.{ended_with, served_from, heeded, last_text, requests_of, AnswersAll, reply_texts, IsExact}
use Rattle.ixp_http.proofs.Readings.{first_unique}

pub if_true : {A : Type 0} (b : Bool) (x y : A) → b ≡ true → (if b then x else y) ≡ x
if_true true x y p = refl
if_true false x y p = absurd (cc (p))

pub if_false : {A : Type 0} (b : Bool) (x y : A) → b ≡ false → (if b then x else y) ≡ y
if_false true x y p = absurd (cc (p))
if_false false x y p = refl

-- what a link with these bytes does from the n-th request on
record Whole {D : Type 0} (turn : D → Call → Outcome → D → Type 0) (n : ℕ) (d e : D) (rs : List Request) (last : Reading) (text : List ℕ)
    (served : Served) : Type 0 where
  told : served ≡ served_from n rs last
  xs : List Exchange
  asked : requests_of xs ≡ heeded n rs
  answers : AnswersAll turn d xs e
  written : text ≡ reply_texts n xs ++ last_text n rs last

-- what is written last, as one text
the_text : {D : Type 0} (turn : D → Call → Outcome → D → Type 0) (n : ℕ) (d e : D) (W : List ℕ → Type 0) (last : Reading) (end : LinkEnd) (m : ℕ)
    → EndsBy turn n d e W last end m → (t : List ℕ) × W t × EndsBy turn n d e (λ s. s ≡ t) last end m
the_text turn n d e W closed end m p = ([], p.3, (p.0, p.1, p.2, refl))
the_text turn n d e W cut end m p = ([], p.3, (p.0, p.1, p.2, refl))
the_text turn n d e W (bad status) end m p = (p.2.0, p.2.2, (p.0, p.1, (p.2.0, p.2.1, refl)))
the_text turn n d e W (message r rest) end m p = (p.3.0, p.3.2, (p.0, p.1, p.2, (p.3.0, p.3.1, refl)))

-- no message stands there
whole_end : {D : Type 0} (turn : D → Call → Outcome → D → Type 0) (n : ℕ) (d e : D) (last : Reading) (t : List ℕ) (end : LinkEnd) (m : ℕ)
    → IsEnd last → EndsBy turn n d e (λ s. s ≡ t) last end m → Whole turn n d e [] last t (record { end = end; requests = m })
whole_end turn n d e closed t end m is p = record {
  told = cc (p.0, p.1);
  xs = [];
  asked = refl;
  answers = p.2;
  written = sym p.3;
}
whole_end turn n d e cut t end m is p = record {
  told = cc (p.0, p.1);
  xs = [];
  asked = refl;
  answers = p.2;
  written = sym p.3;
}
whole_end turn n d e (bad status) t end m is p = record {
  told = cc (p.0, p.1);
  xs = [];
  asked = refl;
  answers = p.2.1.0;
  written = sym p.2.2 ∙ p.2.1.1;
}
whole_end turn n d e (message r rest) t end m is p = absurd is

-- the link ends with a request
whole_last : {D : Type 0} (turn : D → Call → Outcome → D → Type 0) (n : ℕ) (d e : D) (r : Request) (rest : List ℕ) (rs : List Request) (last : Reading)
    (t : List ℕ) (end : LinkEnd) (m : ℕ)
    → EndsBy turn n d e (λ s. s ≡ t) (message r rest) end m → Whole turn n d e (r ∷ rs) last t (record { end = end; requests = m })
whole_last turn n d e r rest rs last t end m p =
    let served : Served = record { end = end; requests = m } in
    let text : List ℕ = reply_bytes (closing_if (ends_at n r) (reply p.3.1.0)) in
    let is : served ≡ ended_with n r = cc (p.1, p.2) in
    record {
      told = is ∙ sym (if_true (ends_at n r) (ended_with n r) (served_from (n + 1) rs last) p.0);
      xs = record { request = r; outcome = p.3.1.0 } ∷ [];
      asked = ap (λ (qs : List Request). r ∷ qs) (sym (if_true (ends_at n r) [] (heeded (n + 1) rs) p.0));
      answers = (e, p.3.1.1, refl);
      written =
          sym p.3.2 ∙ p.3.1.3
          ∙ subst (λ (u : List ℕ). text ≡ (text ++ []) ++ u) (sym (if_true (ends_at n r) [] (last_text (n + 1) rs last) p.0))
          (sym (append-nil (text ++ []) ∙ append-nil text));
    }

-- the link goes on after a request
whole_on : {D : Type 0} (turn : D → Call → Outcome → D → Type 0) (n : ℕ) (d mid e : D) (y : Exchange) (rs : List Request) (last : Reading)
    (t : List ℕ) (served : Served)
    → ends_at n y.request ≡ false → Answers turn d y.request y.outcome mid → Whole turn (n + 1) mid e rs last t served
    → Whole turn n d e (y.request ∷ rs) last (reply_bytes (reply y.outcome) ++ t) served
whole_on turn n d mid e y rs last t served h a w = record {
  told = w.told ∙ sym (if_false (ends_at n y.request) (ended_with n y.request) (served_from (n + 1) rs last) h);
  xs = y ∷ w.xs;
  asked = ap (λ (qs : List Request). y.request ∷ qs) (w.asked ∙ sym (if_false (ends_at n y.request) [] (heeded (n + 1) rs) h));
  answers = (mid, a, w.answers);
  written =
      subst
      (λ (b : Bool). reply_bytes (reply y.outcome) ++ t
      ≡ (reply_bytes (closing_if b (reply y.outcome)) ++ reply_texts (n + 1) w.xs) ++ (if b then [] else last_text (n + 1) rs last))
      (sym h)
      (ap (λ (u : List ℕ). reply_bytes (reply y.outcome) ++ u) w.written
      ∙ sym (append_assoc (reply_bytes (reply y.outcome)) (reply_texts (n + 1) w.xs) (last_text (n + 1) rs last)));
}

-- the link doesn't end with a request that doesn't ask to close and isn't the last
pub goes_at : (b : Bool) (n : ℕ) → b ≡ false → n + 1 < 100000 → (b || n + 1 == 100000) ≡ false
goes_at true n p q = absurd (cc (p))
goes_at false n p q = grind (arith, nat_tests)

whole_from : {D : Type 0} (turn : D → Call → Outcome → D → Type 0) (n k : ℕ) (d mid e : D) (xs : List Exchange) (bytes rest : List ℕ)
    (rs : List Request) (last x : Reading) (t : List ℕ) (end : LinkEnd) (m : ℕ)
    → GoesOn turn d xs mid → k ≡ n + length xs → k < request_limit → Reads bytes xs rest → First rest x → Messages bytes rs last
    → EndsBy turn k mid e (λ s. s ≡ t) x end m → Whole turn n d e rs last (replies xs ++ t) (record { end = end; requests = m })
whole_from turn n k d mid e [] bytes rest [] last x t end m goes count less reads first msgs ends =
    let is : x ≡ last = first_unique bytes x last (subst (λ (b : List ℕ). First b x) (sym reads) first) msgs.0 in
    let same : k ≡ n = omega arith in
    let a : EndsBy turn n mid e (λ s. s ≡ t) x end m = subst (λ (j : ℕ). EndsBy turn j mid e (λ s. s ≡ t) x end m) same ends in
    let b : EndsBy turn n mid e (λ s. s ≡ t) last end m = subst (λ (y : Reading). EndsBy turn n mid e (λ s. s ≡ t) y end m) is a in
    whole_end turn n d e last t end m msgs.1 (subst (λ s. EndsBy turn n s e (λ s. s ≡ t) last end m) goes b)
whole_from turn n k d mid e [] bytes rest (r ∷ rs) last x t end m goes count less reads first msgs ends =
    let is : x ≡ message r msgs.0 = first_unique bytes x (message r msgs.0) (subst (λ (b : List ℕ). First b x) (sym reads) first) msgs.1 in
    let same : k ≡ n = omega arith in
    let a : EndsBy turn n mid e (λ s. s ≡ t) x end m = subst (λ (j : ℕ). EndsBy turn j mid e (λ s. s ≡ t) x end m) same ends in
    let b : EndsBy turn n mid e (λ s. s ≡ t) (message r msgs.0) end m = subst (λ (y : Reading). EndsBy turn n mid e (λ s. s ≡ t) y end m) is a in
    whole_last turn n d e r msgs.0 rs last t end m (subst (λ s. EndsBy turn n s e (λ s. s ≡ t) (message r msgs.0) end m) goes b)
whole_from turn n k d mid e (y ∷ ys) bytes rest [] last x t end m goes count less reads first msgs ends =
    absurd (subst IsEnd (first_unique bytes last (message y.request reads.0) msgs.0 reads.1) msgs.1)
whole_from turn n k d mid e (y ∷ ys) bytes rest (r ∷ rs) last x t end m goes count less reads first msgs ends =
    let is : message r msgs.0 ≡ message y.request reads.0 = first_unique bytes (message r msgs.0) (message y.request reads.0) msgs.1 reads.1 in
    let one : y.request ≡ r = cc in
    let more : msgs.0 ≡ reads.0 = cc in
    let below : n + 1 < 100000 = omega arith in
    let later : k ≡ (n + 1) + length ys = omega arith in
    let w = whole_from turn (n + 1) k goes.0 mid e ys reads.0 rest rs last x t end m goes.2 later less reads.2 first
    (subst (λ (b : List ℕ). Messages b rs last) more msgs.2) ends in
    let served : Served = record { end = end; requests = m } in
    let v : Whole turn n d e (y.request ∷ rs) last (reply_bytes (reply y.outcome) ++ (replies ys ++ t)) served =
    whole_on turn n d goes.0 e y rs last (replies ys ++ t) served (goes_at y.request.closes n goes.1.0 below) goes.1.2 w in
    subst (λ (s : Request). Whole turn n d e (s ∷ rs) last ((reply_bytes (reply y.outcome) ++ replies ys) ++ t) served) one
    (subst (λ (u : List ℕ). Whole turn n d e (y.request ∷ rs) last u served)
    (sym (append_assoc (reply_bytes (reply y.outcome)) (replies ys) t)) v)

exact_by : {D : Type 0} (turn : D → Call → Outcome → D → Type 0) (d mid e : D) (bytes : List ℕ) (written now : Option (List ℕ)) (xs : List Exchange)
    (end : LinkEnd) (m : ℕ) (x : Reading)
    → GoesOn turn d xs mid → length xs < request_limit → ((rest : List ℕ) × Reads bytes xs rest × First rest x)
    → EndsBy turn (length xs) mid e (Wrote written now xs) x end m
    → IsExact turn d e bytes written now (record { end = end; requests = m })
exact_by turn d mid e bytes written now xs end m x goes less behind ends = λ rs last msgs free.
    let text = the_text turn (length xs) mid e (Wrote written now xs) x end m ends in
    let count : length xs ≡ 0 + length xs = omega arith in
    let w = whole_from turn 0 (length xs) d mid e xs bytes behind.0 rs last x text.0 end m goes count less behind.1 behind.2 msgs text.2 in
    (w.told, (w.xs, w.asked, w.answers, subst (λ (u : List ℕ). Takes written now u) w.written text.1))

pub exact_ends : {D : Type 0} (turn : D → Call → Outcome → D → Type 0) (d mid e : D) (bytes : List ℕ) (written now : Option (List ℕ)) (xs : List Exchange)
    (A B : Type 0) (end : LinkEnd) (m : ℕ)
    → GoesOn turn d xs mid → length xs < request_limit
    → Ends turn (length xs) mid e (Behind (Some bytes) xs) (Wrote written now xs) A B end m
    → IsExact turn d e bytes written now (record { end = end; requests = m })
exact_ends turn d mid e bytes written now xs A B ReadFault m goes less ends = λ rs last msgs free. absurd (cc (free))
exact_ends turn d mid e bytes written now xs A B WriteFault m goes less ends = λ rs last msgs free. absurd (cc (free))
exact_ends turn d mid e bytes written now xs A B NoMemory m goes less ends = λ rs last msgs free. absurd (cc (free))
exact_ends turn d mid e bytes written now xs A B Closed m goes less ends =
    exact_by turn d mid e bytes written now xs Closed m ends.0 goes less ends.1 ends.2
exact_ends turn d mid e bytes written now xs A B (BadMessage status) m goes less ends =
    exact_by turn d mid e bytes written now xs (BadMessage status) m ends.0 goes less ends.1 ends.2
exact_ends turn d mid e bytes written now xs A B Cut m goes less ends =
    exact_by turn d mid e bytes written now xs Cut m ends.0 goes less ends.1 ends.2
exact_ends turn d mid e bytes written now xs A B Spent m goes less ends =
    exact_by turn d mid e bytes written now xs Spent m ends.0 goes less ends.1 ends.2

-- what was done on a link is what its bytes say
pub exact : {D : Type 0} (turn : D → Call → Outcome → D → Type 0) (d e : D) (left written now : Option (List ℕ)) (A B : Type 0) (served : Served)
    → Serves turn d e left written now A B served → WhereTold left (λ bytes. IsExact turn d e bytes written now served)
exact turn d e None written now A B served p = tt
exact turn d e (Some bytes) written now A B served p =
    exact_ends turn d p.mid e bytes written now p.xs A B served.end served.requests p.goes p.few p.ends
