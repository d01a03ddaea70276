-- The whole generated text is sound.
use Rattle.std.proofs.Common.{◌≡◌, ℕ, Bool, true, false, ◌||◌, List, [], ◌∷◌, ◌++◌, flat_map, Option, None, refl, sym, subst}
use Rattle.std.specs.List.{list_all, list_any}
use Rattle.ixp_lang.specs.Trees.{ItemTree, device_item}
use Rattle.ixp_num.specs.declared.addr.Addr.{Addr}
use Rattle.ixp_num.specs.declared.family.Family.{Family}
use Rattle.ixp_num.specs.declared.pattern.Pattern.{Pattern}
use Rattle.ixp_lang_tokens.specs.Pieces.{same_word}
use Rattle.ixp_lang_exprs.specs.Names.{Names}
use Rattle.ixp_lang_exprs.specs.Declarations.{nothing_declared}
use Rattle.ixp_compile.specs.declared.inputs.HeaderInputs.{HeaderInputs}
use Rattle.ixp_compile.specs.declared.inputs.Inputs.{Inputs}
use Rattle.ixp_compile.specs.Pieces.{in_turn, master, roas}
use Rattle.ixp_compile.specs.Header.{bogons_of, header}
use Rattle.ixp_compile.specs.Fragment.{fragment}
use Rattle.ixp_lang_laws.specs.Sound.{is_lawful}
use Rattle.ixp_lang_laws.specs.SoundItems.{is_sound}
use Rattle.ixp_compile_laws.proofs.Facts.{Facts, Known, apart, word_same, known_front, known_both}
use Rattle.ixp_compile_laws.proofs.Session.{heads, free_names, apart_both}
use Rattle.ixp_compile_laws.proofs.Sessions.{ahead, sessions_lead}
use Rattle.ixp_compile_laws.specs.Fit.{AreFit}
use Rattle.ixp_compile_laws.proofs.Stages.{Stage, Goes, then_goes}
use Rattle.ixp_compile_laws.proofs.WholeHead.{head_words, is_head, sets_todo, header_goes, heads_known, Last}

-- what holds of each word holds of one that is among them
abbrev AllOf : (List ℕ → Type 0) → List (List ℕ) → Type 0
AllOf P [] = Unit {0}
AllOf P (w ∷ ws) = P w × AllOf P ws

of_one : (P : List ℕ → Type 0) (ws : List (List ℕ)) → AllOf P ws → (w : List ℕ) → list_any (same_word w) ws ≡ true → P w
of_one P [] all w e = absurd cc
of_one P (x ∷ ws) (p, all) w e = by_case (same_word w x) refl e (λ f. of_one P ws all w f)
  where
    by_case : (c : Bool) → same_word w x ≡ c → (c || list_any (same_word w) ws) ≡ true → (list_any (same_word w) ws ≡ true → P w) → P w
    by_case true same f go = subst P (sym (word_same w x same)) p
    by_case false other f go = go f

one_apart : (i : Inputs) (w : List ℕ) → is_head w ≡ true → apart w (free_names i) ≡ true
one_apart i w e = of_one (λ w. apart w (free_names i) ≡ true) head_words (refl, (refl, (refl, (refl, (refl, (refl, (refl, (refl, (refl, (refl, (refl, (refl, (refl, (refl, (refl, (refl, (refl, (refl, tt)))))))))))))))))) w e

abbrev frees : List Inputs → Facts
frees [] = []
frees (i ∷ is) = free_names i ++ frees is

frees_apart : (is : List Inputs) (w : List ℕ) → is_head w ≡ true → apart w (frees is) ≡ true
frees_apart [] w e = refl
frees_apart (i ∷ is) w e = apart_both w (free_names i) (frees is) (one_apart i w e) (frees_apart is w e)

nothing_known : (is : List Inputs) → Known nothing_declared (frees is)
nothing_known [] = tt
nothing_known (i ∷ is) = (refl, (refl, (refl, (refl, (refl, (refl, (refl, (refl, (refl, (refl, nothing_known is))))))))))

known_ahead : (f : Family) (b : Option Addr) (sets blackholes : Inputs → List Pattern) (is : List Inputs) (names : Names) → Known names (frees is) → Known names (heads f b) → Known names (ahead f b sets blackholes is)
known_ahead f b sets blackholes [] names k h = h
known_ahead f b sets blackholes (i ∷ is) names k h = (let g = known_front names (free_names i) (frees is) k in known_both names (free_names i) (ahead f b sets blackholes is) g.0 (known_ahead f b sets blackholes is names g.1 h))

module _ (h : HeaderInputs) (is : List Inputs) (sets blackholes : Inputs → List Pattern) (lawful : list_all is_lawful (bogons_of h) ≡ true) (fit : AreFit h.router.family h.router.blackhole sets blackholes is) where
  abbrev Begin : ℕ → Names → Type 0
  Begin = Stage ((master h.router.family, None) ∷ (roas h.router.family, None) ∷ sets_todo h (frees is) (frees_apart is) lawful) []

  abbrev Headed : ℕ → Names → Type 0
  Headed = Last h (frees is) (frees_apart is) lawful

  parts : List ItemTree
  parts = flat_map (λ i. fragment i (sets i) (blackholes i)) is

  Any : ℕ → Names → Type 0
  Any number names = Unit {0}

  sessions_go : Goes Headed (flat_map (λ i. fragment i (sets i) (blackholes i)) is) (λ number names. Unit {0})
  sessions_go number names p =
      (let k = heads_known h (frees is) (frees_apart is) lawful number names p in
      ((sessions_lead h.router.family h.router.blackhole sets blackholes is fit number names (known_ahead h.router.family h.router.blackhole sets blackholes is names k.0 k.1)).0, tt))

  begins : (f : Family) → Stage ((master f, None) ∷ (roas f, None) ∷ sets_todo h (frees is) (frees_apart is) lawful) [] 0 nothing_declared
  begins f = ((refl, (refl, (refl, (refl, (refl, (refl, (refl, (refl, (refl, (refl, (refl, (refl, (refl, (refl, nothing_known is)))))))))))))), tt, (λ m g. refl), (λ m g. refl))

  pub generated_is_sound : is_sound (in_turn (header h ∷ flat_map (λ i. fragment i (sets i) (blackholes i)) is ∷ (device_item None ∷ []) ∷ [])) ≡ true
  generated_is_sound =
      (then_goes Begin Headed (λ number names. Unit {0}) (header h) (flat_map (λ i. fragment i (sets i) (blackholes i)) is ++ ((device_item None ∷ []) ++ [])) (header_goes h (frees is) (frees_apart is) lawful)
      (then_goes Headed (λ number names. Unit {0}) (λ number names. Unit {0}) (flat_map (λ i. fragment i (sets i) (blackholes i)) is) ((device_item None ∷ []) ++ []) sessions_go (λ number names p. (refl, tt))) 0 nothing_declared (begins h.router.family)).0
