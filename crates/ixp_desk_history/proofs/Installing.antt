-- Texts that were ordered at a beginning of the history, and are installed later.
use Rattle.std.proofs.Common.{◌≡◌, ◌==◌, not, suc, ℕ, ◌+◌, ◌≤◌, ◌<◌, Bool, true, false, List, [], ◌∷◌, ◌++◌, length, map, option_map, nat_lt, refl, ap, sym, ◌∙◌, subst, arith, if◌then◌else◌}
use Rattle.std.proofs.lemmas.Bool.{eqb-true}
use Rattle.std.proofs.lemmas.Bool.Decides.{nat_tests}
use Rattle.ixp_num.specs.declared.roa.Roa.{Roa}
use Rattle.ixp_print.specs.Texts.{config_text}
use Rattle.ixp_registry.specs.declared.registry.Registry.{Registry}
use Rattle.ixp_machine_steps.specs.declared.state.State.{State}
use Rattle.ixp_compile.specs.Header.{header as header_text}
use Rattle.ixp_compile.specs.Generated.{session_part}
use Rattle.ixp_build_pending.specs.declared.pending.Pending.{Pending}
use Rattle.ixp_build_pending.specs.declared.touch.Touch.{Touch}
use Rattle.ixp_build_pending.specs.Pendings.{IsLater, IsListed, header_count, later_count, lists_header, lists_session, session_count}
use Rattle.ixp_build_touches.proofs.Untouched.{headers_stay, parts_stay, roas_stay}
use Rattle.ixp_build.specs.declared.bundle.Bundle.{Bundle}
use Rattle.ixp_build.specs.declared.making.Made.{Made}
use Rattle.ixp_build.specs.Bundles.{AgreesBut, IsOf, built_of, made_of, head_wanted, part_wanted}
use Rattle.ixp_build.specs.Orders.{head_made, head_ordered, installed, made_after, made_from, order_of, part_made, part_ordered}
use Rattle.ixp_build.proofs.AfterEdits.{install_settles}
use Rattle.ixp_desk_history.specs.declared.turn.Event.TheVariants.{Install}
use Rattle.ixp_desk_history.specs.declared.turn.First.{First}
use Rattle.ixp_desk_history.specs.declared.turn.Turn.{Turn}
use Rattle.ixp_desk_history.specs.Turns.{entry_in, entries_of, state_of, registry_of, built_after, built_in, shown_after, IsVersion}
use Rattle.ixp_desk_history.specs.Legal.{Legal, ShowsMade, ShowsTexts}
use Rattle.ixp_desk_history.specs.Orders.{IsMadeAt}
use Rattle.ixp_desk_history.specs.Touches.{header, last_from, last_touch, MadeBy, part, Pends, roas}
use Rattle.ixp_desk_history.proofs.Snocs.{built_snoc, entries_snoc}
use Rattle.ixp_desk_history.proofs.Steady.{Frames, last_both, steady}
use Rattle.ixp_desk_history.proofs.ShownRight.{shown_right}
use Rattle.ixp_desk_history.proofs.Versions.{entries_both, goes_parts, lawful_after, legal_before, one_version, present, state_both, state_valid, version_stays}

-- What a change doesn't touch is wanted as before.

header_frame : (h : List ℕ) → Frames (header h) (λ r. head_wanted r h)
header_frame h r c valid un = ap (option_map (λ i. config_text (header_text i))) (headers_stay r c h un)

part_frame : (h : List ℕ) (n : ℕ) → Frames (part h n) (λ r. part_wanted r h n)
part_frame h n r c valid un = ap (option_map (λ i. config_text (session_part i))) (parts_stay r c h n valid un)

abbrev roas_wanted : Registry → List Roa
roas_wanted r = r.public.roas

roas_frame : Frames roas roas_wanted
roas_frame r c valid un = roas_stay r c un

module _ {W : Type 0} (p : Touch → Bool) (wanted : Registry → W) (frame : Frames p wanted) where
  steady_both : (f : First) (before rest : List Turn) → Legal f (before ++ rest) → last_touch f (before ++ rest) p ≤ (state_of f before).accepted
      → wanted (registry_of f before) ≡ wanted (registry_of f (before ++ rest))
  steady_both f before rest legal low =
      let last : last_touch f (before ++ rest) p ≡ last_from p (state_of f before) (last_touch f before p) (entries_of rest)
      = ap (λ es. last_from p f.state 0 es) (entries_both before rest) ∙ last_both p f.state 0 (entries_of before) (entries_of rest) in
      steady p wanted frame (state_of f before) (last_touch f before p) (entries_of rest) (state_valid f before (legal_before f before rest legal))
      (lawful_after f before rest (goes_parts f [] before rest legal.goes).1) (omega (arith, last, low))
      ∙ ap (λ (s : State). wanted s.registry) (sym (state_both f before rest))

  -- a text that no edit touched after a version is wanted as that version wants it
  version_steady : (f : First) (ts : List Turn) (k : ℕ) (r : Registry) → Legal f ts → IsVersion f ts k r → last_touch f ts p ≤ k → wanted r ≡ wanted (registry_of f ts)
  version_steady f ts k r legal v low =
      let count = v.count in
      ap wanted v.registry
      ∙ (steady_both f v.before v.rest (subst (Legal f) v.is legal) (subst (λ (l : List Turn). last_touch f l p ≤ (state_of f v.before).accepted) v.is (omega (arith, count, low)))
      ∙ ap (λ l. wanted (registry_of f l)) (sym v.is))

-- What is pending.

-- what isn't pending has no later touch
none_pending : (built last c : ℕ) → c ≡ later_count built last → c ≡ 0 → last ≤ built
none_pending built last c is zero = by_less (nat_lt built last) refl (sym is ∙ zero) where
  by_less : (less : Bool) → nat_lt built last ≡ less → (if less then last else 0) ≡ 0 → last ≤ built
  by_less true lt zero = omega (arith, zero)
  by_less false lt zero = grind (arith, nat_tests)

-- nor has what isn't listed
none_later : (built last c : ℕ) (listed : Bool) → c ≡ later_count built last → listed ≡ not (c == 0) → listed ≡ false → last ≤ built
none_later built last c listed is lists un = none_pending built last c is (zero (c == 0) refl (sym lists ∙ un)) where
  zero : (z : Bool) → (c == 0) ≡ z → not (c == 0) ≡ false → c ≡ 0
  zero true e none = eqb-true c 0 e
  zero false e none = absurd (let bad : true ≡ false = sym (ap not e) ∙ none in let wrong : ⊥ = cc in wrong)

-- ROAs that aren't pending are shown as the registry has them
pub roas_shown : (f : First) (ts : List Turn) (p : Pending) → Legal f ts → Pends f ts p → p.roas ≡ 0 → (shown_after f ts).bundle.roas ≡ (registry_of f ts).public.roas
roas_shown f ts p legal pends zero =
    let right = shown_right f ts legal in
    let r = right.texts.0 in
    right.texts.2.roas refl
    ∙ version_steady roas roas_wanted roas_frame f ts (built_after f ts) r legal right.texts.1 (none_pending (built_after f ts) (last_touch f ts roas) p.roas pends.roas_are zero)

-- what isn't pending is as the registry wants it, in each bundle of the version that was installed last
pends_agree : (f : First) (at : List Turn) (p : Pending) (t : Touch) (b : Bundle) (r : Registry) → Legal f at → Pends f at p → IsListed p t → IsVersion f at (built_after f at) r → IsOf b r
    → AgreesBut t b (registry_of f at)
pends_agree f at p t b r legal pends listed version is = record {
  order = is.order;
  heads = λ h un. is.heads h refl ∙ version_steady (header h) (λ r. head_wanted r h) (header_frame h) f at (built_after f at) r legal version
      (none_later (built_after f at) (last_touch f at (header h)) (header_count p h) (lists_header t h) (pends.headers h) (listed.headers h) un);
  parts = λ h n un. is.parts h n refl ∙ version_steady (part h n) (λ r. part_wanted r h n) (part_frame h n) f at (built_after f at) r legal version
      (none_later (built_after f at) (last_touch f at (part h n)) (session_count p h n) (lists_session t h n) (pends.sessions h n) (listed.sessions h n) un);
  roas = λ un. is.roas refl ∙ version_steady roas roas_wanted roas_frame f at (built_after f at) r legal version
      (none_later (built_after f at) (last_touch f at roas) p.roas t.roas pends.roas_are listed.roas un);
}

-- what is pending is what edits touched since the last version
later_listed : (built last c : ℕ) (listed : Bool) → c ≡ later_count built last → listed ≡ not (c == 0) → listed ≡ nat_lt built last
later_listed built last c listed is lists = lists ∙ by_less (nat_lt built last) refl is where
  by_less : (b : Bool) → nat_lt built last ≡ b → c ≡ (if b then last else 0) → not (c == 0) ≡ b
  by_less true lt e = grind (arith, nat_tests)
  by_less false lt e = grind (arith, nat_tests)

length_kept : {X Y : Type 0} (f : X → Y) (xs : List X) → length (map f xs) ≡ length xs
length_kept f [] = refl
length_kept f (x ∷ xs) = ap suc (length_kept f xs)

texts_made : (built upto : ℕ) (r : Registry) (t : Touch) (m : Made) → m ≡ made_from (order_of built upto r t) → length m.headers + length m.sessions ≡ length t.headers + length t.sessions
texts_made built upto r t m is =
    let heads : length m.headers ≡ length t.headers
    = ap (λ (x : Made). length x.headers) is ∙ (length_kept head_made (map (head_ordered r) t.headers) ∙ length_kept (head_ordered r) t.headers) in
    let parts : length m.sessions ≡ length t.sessions
    = ap (λ (x : Made). length x.sessions) is ∙ (length_kept part_made (map (part_ordered r) t.sessions) ∙ length_kept (part_ordered r) t.sessions) in
    omega (arith, heads, parts)

made_later : (b : Bundle) (m : Made) → built_of b < m.upto → made_after b m ≡ length m.headers + length m.sessions
made_later b m low = by_less (nat_lt b.built m.upto) refl where
  by_less : (less : Bool) → nat_lt b.built m.upto ≡ less → (if less then length m.headers + length m.sessions else b.made) ≡ length m.headers + length m.sessions
  by_less true lt = refl
  by_less false lt = absurd (grind (arith, nat_tests))

made_same : (b : Bundle) (m : Made) → m.upto ≡ built_of b → made_after b m ≡ made_of b
made_same b m same = by_less (nat_lt b.built m.upto) refl where
  by_less : (less : Bool) → nat_lt b.built m.upto ≡ less → (if less then length m.headers + length m.sessions else b.made) ≡ b.made
  by_less true lt = absurd (grind (arith, nat_tests))
  by_less false lt = refl

-- the bundle's number of texts made is right after an installation
made_right : (f : First) (at more : List Turn) (b : Bundle) (m : Made) → IsMadeAt f at m → b ≡ (shown_after f (at ++ more)).bundle → built_of b ≡ built_after f (at ++ more)
    → built_after f (at ++ more) ≡ built_after f at → ShowsMade f (at ++ more) (state_of f at).accepted (made_of (installed b m))
made_right f at more b m o is built same =
    let upto : m.upto ≡ (state_of f at).accepted = ap (λ (x : Made). x.upto) o.made in
    record {
      later = λ low. record {
        before = at;
        rest = more;
        is = refl;
        count = refl;
        texts = o.texts;
        once = o.listed.once;
        headers = λ h. later_listed (built_after f (at ++ more)) (last_touch f at (header h)) (header_count o.pending h) (lists_header o.texts h)
            (o.pends.headers h ∙ ap (λ k. later_count k (last_touch f at (header h))) (sym same)) (o.listed.headers h);
        sessions = λ h n. later_listed (built_after f (at ++ more)) (last_touch f at (part h n)) (session_count o.pending h n) (lists_session o.texts h n)
            (o.pends.sessions h n ∙ ap (λ k. later_count k (last_touch f at (part h n))) (sym same)) (o.listed.sessions h n);
        made_is = made_later b m (omega (arith, low, built, upto)) ∙ texts_made (built_after f at) (state_of f at).accepted (registry_of f at) o.texts m o.made;
      };
      same = λ e. made_same b m (upto ∙ (e ∙ sym built)) ∙ ap made_of is;
    }

-- Texts that were ordered at a beginning, and are installed where nothing was installed since, are those of the
-- version that they were ordered of.
pub install_right : (f : First) (at more : List Turn) (m : Made) → Legal f (at ++ more) → IsMadeAt f at m → built_after f (at ++ more) ≡ built_after f at
    → ShowsTexts f (at ++ more) (Install (state_of f at).accepted) (installed (shown_after f (at ++ more)).bundle m)
install_right f at more m legal o same =
    let now = shown_right f (at ++ more) legal in
    let was = shown_right f at (legal_before f at more legal) in
    let r = now.texts.0 in
    let there : IsVersion f (at ++ more) (built_after f at) r = subst (λ k. IsVersion f (at ++ more) k r) same now.texts.1 in
    let one : r ≡ was.texts.0 = one_version f (at ++ more) (built_after f at) r was.texts.0 there (version_stays f at more (built_after f at) was.texts.0 was.texts.1) in
    let version : IsVersion f at (built_after f at) r = subst (IsVersion f at (built_after f at)) (sym one) was.texts.1 in
    let b = (shown_after f (at ++ more)).bundle in
    let order = order_of (built_after f at) (state_of f at).accepted (registry_of f at) o.texts in
    let built : built_of b ≡ built_after f at = now.built ∙ same in
    let whole : IsOf (installed b (made_from order)) (registry_of f at)
    = subst (λ k. IsOf (installed b (made_from (order_of k (state_of f at).accepted (registry_of f at) o.texts))) (registry_of f at)) built
    (install_settles o.texts b (registry_of f at) (state_of f at).accepted
    (pends_agree f at o.pending o.texts b r (legal_before f at more legal) o.pends o.listed version now.texts.2)) in (
      ap (λ (x : Made). x.upto) o.made,
      (registry_of f at, version_stays f at more (state_of f at).accepted (registry_of f at) (present f at), subst (λ (x : Made). IsOf (installed b x) (registry_of f at)) (sym o.made) whole),
      made_right f at more b m o refl now.built same,
    )

twice_later : (built upto c : ℕ) → built ≤ upto → later_count upto (later_count built c) ≡ later_count upto c
twice_later built upto c low = by_less (nat_lt built c) refl where
  zero : (b : Bool) → ◌≡◌ {A = ℕ} (if b then 0 else 0) 0
  zero true = refl
  zero false = refl

  none : (b : Bool) → nat_lt upto c ≡ b → c ≤ built → 0 ≡ (if b then c else 0)
  none true lt small = absurd (grind (arith, nat_tests))
  none false lt small = refl

  by_less : (less : Bool) → nat_lt built c ≡ less → later_count upto (if less then c else 0) ≡ later_count upto c
  by_less true lt = refl
  by_less false lt = zero (nat_lt upto 0) ∙ none (nat_lt upto c) refl (grind (arith, nat_tests))

-- the last touch of a text by a turn that is no edit
last_stays : (p : Touch → Bool) (f : First) (ts : List Turn) (t : Turn) → entry_in t.event ≡ [] → last_touch f (ts ++ t ∷ []) p ≡ last_touch f ts p
last_stays p f ts t none =
    ap (λ es. last_from p f.state 0 es) (entries_snoc ts t ∙ ap (λ es. entries_of ts ++ es) none) ∙ last_both p f.state 0 (entries_of ts) []

-- what is pending after an installation
pub install_pends : (f : First) (ts : List Turn) (t : Turn) (p q : Pending) (upto : ℕ) → t.event ≡ Install upto → built_after f ts ≤ upto → Pends f ts p → IsLater upto p q
    → Pends f (ts ++ t ∷ []) q
install_pends f ts t p q upto is low pends later = record {
  headers = λ h. later.headers h ∙ left (header h) (header_count p h) (pends.headers h);
  sessions = λ h n. later.sessions h n ∙ left (part h n) (session_count p h n) (pends.sessions h n);
  roas_are = later.roas ∙ left roas p.roas pends.roas_are;
} where
  left : (text : Touch → Bool) (c : ℕ) → c ≡ later_count (built_after f ts) (last_touch f ts text)
      → later_count upto c ≡ later_count (built_after f (ts ++ t ∷ [])) (last_touch f (ts ++ t ∷ []) text)
  left text c counts =
      let built : built_after f (ts ++ t ∷ []) ≡ upto = built_snoc f.state.accepted ts t ∙ ap (built_in (built_after f ts)) is in
      let last : last_touch f (ts ++ t ∷ []) text ≡ last_touch f ts text = last_stays text f ts t (ap entry_in is) in
      ap (later_count upto) counts
      ∙ (twice_later (built_after f ts) upto (last_touch f ts text) low
      ∙ sym (ap (λ (b : ℕ). later_count b (last_touch f (ts ++ t ∷ []) text)) built ∙ ap (later_count upto) last))
