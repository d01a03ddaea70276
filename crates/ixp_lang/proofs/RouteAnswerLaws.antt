-- What was read is an answer, and no text has two.
use Rattle.std.proofs.Common.{◌≡◌, ◌≢◌, ℕ, ◌-◌, List, length, Result, Ok, Err, refl, sym, ap, ◌∙◌, subst}
use Rattle.ixp_num.specs.declared.addr.Addr.{Addr}
use Rattle.ixp_num.specs.declared.asn.Asn.{Asn}
use Rattle.ixp_num.specs.declared.prefix.Prefix.{Prefix}
use Rattle.ixp_num.specs.declared.fault.NumFault.{NumFault}
use Rattle.ixp_num.proofs.OneAnswer.{one_addr, one_prefix}
use Rattle.ixp_lang.specs.declared.route.Route.{Route}
use Rattle.ixp_lang.specs.declared.reading.fault.Stop.{Stop}
use Rattle.ixp_lang.specs.declared.reading.fault.Stop.TheVariants as stop
use Rattle.ixp_lang.specs.declared.reading.fault.RouteFault.{RouteFault}
use Rattle.ixp_lang.specs.declared.reading.fault.RouteFault.TheVariants as fault
use Rattle.ixp_lang.specs.RouteReading.{◌then◌, Tells, before_blank, from_blank, after_blank, path_at, route_end, WithHop, Unless, WithPath, WithNet, ReadsRoute}
use Rattle.ixp_lang.specs.RouteAnswers.{RouteAnswer, IsOfOneFamily, FamilyAnswer, placed}
use Rattle.ixp_lang.proofs.RouteFields.{route_sound, route_read}

-- memory didn't run out
abbrev pub Known : Result Route Stop → Type 0
Known (Ok r) = Unit {0}
Known (Err (stop.Text left)) = Unit {0}
Known (Err (stop.Set left)) = Unit {0}
Known (Err (stop.TooLong left)) = Unit {0}
Known (Err stop.NoMemory) = ⊥

told : (x reads : Result Route Stop) → Known x → Tells (λ r. r) x reads → reads ≡ x
told (Ok r) reads known tells = tells
told (Err (stop.Text left)) reads known tells = tells
told (Err (stop.Set left)) reads known tells = tells
told (Err (stop.TooLong left)) reads known tells = tells
told (Err stop.NoMemory) reads known tells = absurd known

held : (x : Result Route Stop) (P : Type 0) → Known x → Unless x P → P
held (Ok r) P known h = h
held (Err (stop.Text left)) P known h = h
held (Err (stop.Set left)) P known h = h
held (Err (stop.TooLong left)) P known h = h
held (Err stop.NoMemory) P known h = absurd known

module _ (x y : Result Route Stop) (known_x : Known x) (known_y : Known y) where
  same_hop : (net : Prefix) (path : List Asn) (u : List ℕ) (hop : Result Addr NumFault) → WithHop net path u x hop → WithHop net path u y hop → x ≡ y
  same_hop net path u (Ok a) here there = sym (told x (route_end net path a (from_blank u)) known_x here) ∙ told y (route_end net path a (from_blank u)) known_y there
  same_hop net path u (Err f) here there = here ∙ sym there

  same_path : (net : Prefix) (r : Result (List Asn × List ℕ) Stop) → WithPath net x r → WithPath net y r → x ≡ y
  same_path net (Ok p) (hop, is_hop, here) (other, is_other, there) =
      same_hop net p.0 p.1 hop here (subst (WithHop net p.0 p.1 y) (one_addr (before_blank p.1) other hop is_other is_hop) there)
  same_path net (Err s) here there = here ∙ sym there

  same_net : (t : List ℕ) (net : Result Prefix NumFault) → WithNet t x net → WithNet t y net → x ≡ y
  same_net t (Ok p) here there = same_path p (after_blank (from_blank t) then path_at) (held x _ known_x here) (held y _ known_y there)
  same_net t (Err f) here there = here ∙ sym there

  pub reads_same : (t : List ℕ) → ReadsRoute t x → ReadsRoute t y → x ≡ y
  reads_same t (net, is_net, here) (other, is_other, there) =
      same_net t net here (subst (WithNet t y) (one_prefix (before_blank t) other net is_other is_net) there)

-- what the reader makes of what was read
pub family_answer : (t : List ℕ) (r : Route) (result : Result Route RouteFault) → ReadsRoute t (Ok r) → FamilyAnswer r result → RouteAnswer t result
family_answer t r (Ok s) reads (same, one) = let spelt = route_sound t r reads in subst (λ s. RouteAnswer t (Ok s)) same (spelt.0, spelt.1, one)
family_answer t r (Err fault.Family) reads other = let spelt = route_sound t r reads in (r, spelt.0, spelt.1, other)
family_answer t r (Err (fault.Text at)) reads answer = absurd answer
family_answer t r (Err (fault.Set at)) reads answer = absurd answer
family_answer t r (Err (fault.TooLong at)) reads answer = absurd answer
family_answer t r (Err fault.NoMemory) reads answer = absurd answer

pub stop_answer : (t : List ℕ) (s : Stop) → ReadsRoute t (Err s) → RouteAnswer t (Err (placed (length t) s))
stop_answer t (stop.Text left) reads = (left, reads, refl)
stop_answer t (stop.Set left) reads = (left, reads, refl)
stop_answer t (stop.TooLong left) reads = (left, reads, refl)
stop_answer t stop.NoMemory reads = tt

-- what an answer says was read
abbrev pub Behind : List ℕ → Result Route RouteFault → Result Route Stop → Type 0
Behind t (Ok r) x = (x ≡ Ok r) × IsOfOneFamily r
Behind t (Err fault.Family) x = (r : Route) × (x ≡ Ok r) × ¬ (IsOfOneFamily r)
Behind t (Err (fault.Text at)) x = (left : ℕ) × (x ≡ Err (stop.Text left)) × (at ≡ length t - left)
Behind t (Err (fault.Set at)) x = (left : ℕ) × (x ≡ Err (stop.Set left)) × (at ≡ length t - left)
Behind t (Err (fault.TooLong at)) x = (left : ℕ) × (x ≡ Err (stop.TooLong left)) × (at ≡ length t - left)
Behind t (Err fault.NoMemory) x = ⊥

behind : (t : List ℕ) (a : Result Route RouteFault) → a ≢ Err fault.NoMemory → RouteAnswer t a → (x : Result Route Stop) × Known x × ReadsRoute t x × Behind t a x
behind t (Ok r) known (is, bounded, one) = (Ok r, tt, route_read t r is bounded, (refl, one))
behind t (Err fault.Family) known (r, is, bounded, other) = (Ok r, tt, route_read t r is bounded, (r, refl, other))
behind t (Err (fault.Text at)) known (left, reads, place) = (Err (stop.Text left), tt, reads, (left, refl, place))
behind t (Err (fault.Set at)) known (left, reads, place) = (Err (stop.Set left), tt, reads, (left, refl, place))
behind t (Err (fault.TooLong at)) known (left, reads, place) = (Err (stop.TooLong left), tt, reads, (left, refl, place))
behind t (Err fault.NoMemory) known answer = absurd (known refl)

same_behind : (t : List ℕ) (a b : Result Route RouteFault) (x : Result Route Stop) → Behind t a x → Behind t b x → a ≡ b
same_behind t (Ok r) (Ok s) x (here, one) (there, two) = let e : ◌≡◌ {A = Result Route Stop} (Ok r) (Ok s) = sym here ∙ there in let same : r ≡ s = cc in ap Ok same
same_behind t (Ok r) (Err fault.Family) x (here, one) (s, there, other) =
    let e : ◌≡◌ {A = Result Route Stop} (Ok r) (Ok s) = sym here ∙ there in
    let same : r ≡ s = cc in
    absurd (other (subst IsOfOneFamily same one))
same_behind t (Ok r) (Err (fault.Text at)) x (here, one) (left, there, place) = absurd (let e = sym here ∙ there in let h : ⊥ = cc in h)
same_behind t (Ok r) (Err (fault.Set at)) x (here, one) (left, there, place) = absurd (let e = sym here ∙ there in let h : ⊥ = cc in h)
same_behind t (Ok r) (Err (fault.TooLong at)) x (here, one) (left, there, place) = absurd (let e = sym here ∙ there in let h : ⊥ = cc in h)
same_behind t (Err fault.Family) (Ok s) x (r, here, other) (there, one) =
    let e : ◌≡◌ {A = Result Route Stop} (Ok s) (Ok r) = sym there ∙ here in
    let same : s ≡ r = cc in
    absurd (other (subst IsOfOneFamily same one))
same_behind t (Err fault.Family) (Err fault.Family) x here there = refl
same_behind t (Err fault.Family) (Err (fault.Text at)) x (r, here, other) (left, there, place) = absurd (let e = sym here ∙ there in let h : ⊥ = cc in h)
same_behind t (Err fault.Family) (Err (fault.Set at)) x (r, here, other) (left, there, place) = absurd (let e = sym here ∙ there in let h : ⊥ = cc in h)
same_behind t (Err fault.Family) (Err (fault.TooLong at)) x (r, here, other) (left, there, place) = absurd (let e = sym here ∙ there in let h : ⊥ = cc in h)
same_behind t (Err (fault.Text at)) (Ok s) x (left, here, place) (there, one) = absurd (let e = sym here ∙ there in let h : ⊥ = cc in h)
same_behind t (Err (fault.Text at)) (Err fault.Family) x (left, here, place) (s, there, other) = absurd (let e = sym here ∙ there in let h : ⊥ = cc in h)
same_behind t (Err (fault.Text at)) (Err (fault.Text at')) x (left, here, place) (left', there, place') =
    let e : ◌≡◌ {A = Result Route Stop} (Err (stop.Text left)) (Err (stop.Text left')) = sym here ∙ there in
    let same : left ≡ left' = cc in
    ap (λ n. Err (fault.Text n)) (place ∙ (ap (λ l. length t - l) same ∙ sym place'))
same_behind t (Err (fault.Text at)) (Err (fault.Set at')) x (left, here, place) (left', there, place') = absurd (let e = sym here ∙ there in let h : ⊥ = cc in h)
same_behind t (Err (fault.Text at)) (Err (fault.TooLong at')) x (left, here, place) (left', there, place') = absurd (let e = sym here ∙ there in let h : ⊥ = cc in h)
same_behind t (Err (fault.Set at)) (Ok s) x (left, here, place) (there, one) = absurd (let e = sym here ∙ there in let h : ⊥ = cc in h)
same_behind t (Err (fault.Set at)) (Err fault.Family) x (left, here, place) (s, there, other) = absurd (let e = sym here ∙ there in let h : ⊥ = cc in h)
same_behind t (Err (fault.Set at)) (Err (fault.Text at')) x (left, here, place) (left', there, place') = absurd (let e = sym here ∙ there in let h : ⊥ = cc in h)
same_behind t (Err (fault.Set at)) (Err (fault.Set at')) x (left, here, place) (left', there, place') =
    let e : ◌≡◌ {A = Result Route Stop} (Err (stop.Set left)) (Err (stop.Set left')) = sym here ∙ there in
    let same : left ≡ left' = cc in
    ap (λ n. Err (fault.Set n)) (place ∙ (ap (λ l. length t - l) same ∙ sym place'))
same_behind t (Err (fault.Set at)) (Err (fault.TooLong at')) x (left, here, place) (left', there, place') = absurd (let e = sym here ∙ there in let h : ⊥ = cc in h)
same_behind t (Err (fault.TooLong at)) (Ok s) x (left, here, place) (there, one) = absurd (let e = sym here ∙ there in let h : ⊥ = cc in h)
same_behind t (Err (fault.TooLong at)) (Err fault.Family) x (left, here, place) (s, there, other) = absurd (let e = sym here ∙ there in let h : ⊥ = cc in h)
same_behind t (Err (fault.TooLong at)) (Err (fault.Text at')) x (left, here, place) (left', there, place') = absurd (let e = sym here ∙ there in let h : ⊥ = cc in h)
same_behind t (Err (fault.TooLong at)) (Err (fault.Set at')) x (left, here, place) (left', there, place') = absurd (let e = sym here ∙ there in let h : ⊥ = cc in h)
same_behind t (Err (fault.TooLong at)) (Err (fault.TooLong at')) x (left, here, place) (left', there, place') =
    let e : ◌≡◌ {A = Result Route Stop} (Err (stop.TooLong left)) (Err (stop.TooLong left')) = sym here ∙ there in
    let same : left ≡ left' = cc in
    ap (λ n. Err (fault.TooLong n)) (place ∙ (ap (λ l. length t - l) same ∙ sym place'))
same_behind t (Ok r) (Err fault.NoMemory) x here there = absurd there
same_behind t (Err fault.Family) (Err fault.NoMemory) x here there = absurd there
same_behind t (Err (fault.Text at)) (Err fault.NoMemory) x here there = absurd there
same_behind t (Err (fault.Set at)) (Err fault.NoMemory) x here there = absurd there
same_behind t (Err (fault.TooLong at)) (Err fault.NoMemory) x here there = absurd there
same_behind t (Err fault.NoMemory) b x here there = absurd here

pub one_route : (t : List ℕ) (a b : Result Route RouteFault) → a ≢ Err fault.NoMemory → b ≢ Err fault.NoMemory → RouteAnswer t a → RouteAnswer t b → a ≡ b
one_route t a b known_a known_b is_a is_b =
    let here = behind t a known_a is_a in
    let there = behind t b known_b is_b in
    same_behind t a b here.0 here.3 (subst (Behind t b) (sym (reads_same here.0 there.0 here.1 there.1 t here.2 there.2)) there.3)
