-- What an import filter tells, step by step, is what the rules over rows say.
use Rattle.std.proofs.Common.{◌≡◌, ℕ, Bool, true, false, ◌&&◌, ◌||◌, not, List, [], ◌∷◌, ◌++◌, map, find, Option, Some, None, refl, true≢false, ap, if◌then◌else◌}
use Rattle.ixp_num.specs.declared.roa.Validity.{Validity}
use Rattle.ixp_num.specs.declared.roa.Validity.TheVariants.{Valid, Invalid, Unknown}
use Rattle.ixp_lang.specs.declared.route.Route.{Route}
use Rattle.ixp_lang.specs.Meaning.{End, accepts}
use Rattle.ixp_lang.specs.Attributes.{same_state}
use Rattle.ixp_num_tables.specs.Tables.{if_there}
use Rattle.ixp_policy.specs.declared.line.Line.{Line}
use Rattle.ixp_policy.specs.declared.line.Reason.TheVariants.{PrefixTooLong, PrefixTooShort, Bogon, PathEmpty, PathTooLong, TooManyCommunities, FirstAsNotPeerAs, NextHopNotPeer, BogonAsInPath, TransitFreeAsInPath, OriginNotRegistered, OriginInvalid, PrefixNotRegistered}
use Rattle.ixp_policy.specs.Reasons.{number_of}
use Rattle.ixp_policy.specs.Import.{line, first_that_holds, is_reached, is_got_past}
use Rattle.ixp_policy.specs.Tags.{chosen}
use Rattle.ixp_compile.specs.Shared.{first_number}
use Rattle.ixp_compile.proofs.Tagging.{hop_told, tag, told, base}

-- The steps of the filter, the last one first; each with what was told before.

abbrev pub tags_registered : Bool → Bool → List (ℕ × ℕ) → List (ℕ × ℕ)
tags_registered irr allowed more = if irr then (if allowed then more ++ (1001, 1) ∷ [] else more ++ (1101, 9) ∷ []) else more

abbrev pub tags_state : Bool → Bool → Validity → Bool → List (ℕ × ℕ) → List (ℕ × ℕ)
tags_state irr rpki st allowed more =
    if rpki then
    (if same_state st Invalid then more ++ (1101, 13) ∷ []
    else (if same_state st Valid then more ++ (1000, 1) ∷ [] else tags_registered irr allowed (more ++ (1000, 2) ∷ [])))
    else tags_registered irr allowed (more ++ (1000, 3) ∷ [])

abbrev pub tags_drop : Bool → Bool → List (ℕ × ℕ) → List (ℕ × ℕ)
tags_drop irr covered more = if irr then (if covered then more ++ (1001, 1) ∷ [] else more ++ (1101, 9) ∷ []) else more ++ (1101, 9) ∷ []

abbrev pub tags_blackhole : Bool → Bool → Bool → Bool → Validity → Bool → List (ℕ × ℕ) → List (ℕ × ℕ)
tags_blackhole irr is_drop covered rpki st allowed more =
    if is_drop then tags_drop irr covered (more ++ (1000, 3) ∷ []) else tags_state irr rpki st allowed more

abbrev pub tags_origin : Bool → Bool → Bool → Bool → Bool → Bool → Validity → Bool → List (ℕ × ℕ)
tags_origin irr unlisted listed is_drop covered rpki st allowed =
    if irr then
    (if unlisted then (1001, 1002) ∷ (1101, 10) ∷ []
    else (if listed then tags_blackhole irr is_drop covered rpki st allowed [] else (1101, 10) ∷ []))
    else tags_blackhole irr is_drop covered rpki st allowed ((1001, 2) ∷ [])

-- refused with the number, if there is one
abbrev pub or_refused : Option ℕ → List (ℕ × ℕ) → List (ℕ × ℕ)
or_refused None tags = tags
or_refused (Some n) tags = (1101, n) ∷ []

-- What the rules say, of what is found of the route.
abbrev pub said : ℕ → Bool → Bool → Bool → Bool → Bool → Validity → List Line → List (ℕ × ℕ × ℕ)
said rs own irr unlisted is_drop rpki st lines =
    chosen
    ((is_got_past NextHopNotPeer lines && not own, (rs, 1001, 1200))
    ∷ (is_reached OriginNotRegistered lines && not irr, (rs, 1001, 2))
    ∷ (is_reached OriginNotRegistered lines && irr && unlisted, (rs, 1001, 1002))
    ∷ (is_reached OriginInvalid lines && (not rpki || is_drop), (rs, 1000, 3))
    ∷ (is_reached OriginInvalid lines && (not is_drop && (rpki && same_state st Valid)), (rs, 1000, 1))
    ∷ (is_reached OriginInvalid lines && (not is_drop && (rpki && same_state st Unknown)), (rs, 1000, 2))
    ∷ (is_got_past PrefixNotRegistered lines && (irr && (is_drop || not (rpki && same_state st Valid))), (rs, 1001, 1))
    ∷ [])
    ++ if_there (first_that_holds lines) [] (λ l. (rs, 1101, number_of l.reason) ∷ [])

-- the table's last lines
abbrev pub last_lines : Bool → Bool → Bool → Bool → Bool → Validity → Bool → List Line
last_lines irr listed is_drop covered rpki st allowed =
    line OriginNotRegistered (irr && not listed)
    ∷ line OriginInvalid (not is_drop && (rpki && same_state st Invalid))
    ∷ line PrefixNotRegistered (if is_drop then not irr || not covered else irr && not (rpki && same_state st Valid) && not allowed)
    ∷ []

-- the table's lines up to a place, where none of them holds
abbrev pub past_net : List Line → List Line
past_net ls =
    line PrefixTooLong false ∷ line PrefixTooShort false ∷ line Bogon false ∷ line PathEmpty false ∷ line PathTooLong false ∷ line TooManyCommunities false ∷ ls

abbrev pub past_hop : List Line → List Line
past_hop ls = past_net (line FirstAsNotPeerAs false ∷ line NextHopNotPeer false ∷ ls)

abbrev pub past_path : List Line → List Line
past_path ls = past_hop (line BogonAsInPath false ∷ line TransitFreeAsInPath false ∷ ls)

origin_said : (rs : ℕ) (own irr unlisted listed is_drop covered rpki : Bool) (st : Validity) (allowed : Bool) → (unlisted ≡ true → listed ≡ false)
    → map (tag rs) (hop_told own ++ tags_origin irr unlisted listed is_drop covered rpki st allowed)
    ≡ said rs own irr unlisted is_drop rpki st (past_path (last_lines irr listed is_drop covered rpki st allowed))
origin_said rs true true true true is_drop covered rpki st allowed p = absurd (true≢false (p refl))
origin_said rs true true true false is_drop covered rpki st allowed p = refl
origin_said rs true true false false is_drop covered rpki st allowed p = refl
origin_said rs true true false true true true true st allowed p = refl
origin_said rs true true false true true true false st allowed p = refl
origin_said rs true true false true true false true st allowed p = refl
origin_said rs true true false true true false false st allowed p = refl
origin_said rs true true false true false covered true Invalid allowed p = refl
origin_said rs true true false true false covered true Valid allowed p = refl
origin_said rs true true false true false covered true Unknown true p = refl
origin_said rs true true false true false covered true Unknown false p = refl
origin_said rs true true false true false covered false st true p = refl
origin_said rs true true false true false covered false st false p = refl
origin_said rs true false unlisted listed true covered true st allowed p = refl
origin_said rs true false unlisted listed true covered false st allowed p = refl
origin_said rs true false unlisted listed false covered true Invalid allowed p = refl
origin_said rs true false unlisted listed false covered true Valid allowed p = refl
origin_said rs true false unlisted listed false covered true Unknown allowed p = refl
origin_said rs true false unlisted listed false covered false st allowed p = refl
origin_said rs false true true true is_drop covered rpki st allowed p = absurd (true≢false (p refl))
origin_said rs false true true false is_drop covered rpki st allowed p = refl
origin_said rs false true false false is_drop covered rpki st allowed p = refl
origin_said rs false true false true true true true st allowed p = refl
origin_said rs false true false true true true false st allowed p = refl
origin_said rs false true false true true false true st allowed p = refl
origin_said rs false true false true true false false st allowed p = refl
origin_said rs false true false true false covered true Invalid allowed p = refl
origin_said rs false true false true false covered true Valid allowed p = refl
origin_said rs false true false true false covered true Unknown true p = refl
origin_said rs false true false true false covered true Unknown false p = refl
origin_said rs false true false true false covered false st true p = refl
origin_said rs false true false true false covered false st false p = refl
origin_said rs false false unlisted listed true covered true st allowed p = refl
origin_said rs false false unlisted listed true covered false st allowed p = refl
origin_said rs false false unlisted listed false covered true Invalid allowed p = refl
origin_said rs false false unlisted listed false covered true Valid allowed p = refl
origin_said rs false false unlisted listed false covered true Unknown allowed p = refl
origin_said rs false false unlisted listed false covered false st allowed p = refl

abbrev pub path_lines : Bool → Bool → List Line → List Line
path_lines bogon transit ls = line BogonAsInPath bogon ∷ line TransitFreeAsInPath transit ∷ ls

abbrev pub tags_path : Bool → Bool → List (ℕ × ℕ) → List (ℕ × ℕ)
tags_path bogon transit tags = or_refused (first_number ((bogon, 4) ∷ [])) (or_refused (first_number ((transit, 14) ∷ [])) tags)

module _ (rs : ℕ) (route : Route) where
  abbrev pub ends : Bool → List (ℕ × ℕ) → End
  ends own more = accepts (told rs route own more)

  -- the tests of the path's first number and of the next hop
  abbrev pub hop_end : Bool → Bool → Bool → List (ℕ × ℕ) → End
  hop_end first own beside tags =
      if first then ends true ((1101, 7) ∷ []) else (if own then ends true tags else (if beside then ends false tags else ends true ((1101, 8) ∷ [])))

  abbrev pub net_end : Option ℕ → End → End
  net_end None end = end
  net_end (Some n) end = ends true ((1101, n) ∷ [])

module _ (rs : ℕ) (irr unlisted listed is_drop covered rpki : Bool) (st : Validity) (allowed : Bool) (empty : unlisted ≡ true → listed ≡ false) where
  abbrev origin_tags : List (ℕ × ℕ)
  origin_tags = tags_origin irr unlisted listed is_drop covered rpki st allowed

  abbrev lines_left : List Line
  lines_left = last_lines irr listed is_drop covered rpki st allowed

  abbrev said_of : Bool → List Line → List (ℕ × ℕ × ℕ)
  said_of own ls = said rs own irr unlisted is_drop rpki st ls

  path_said : (own bogon transit : Bool)
      → map (tag rs) (hop_told own ++ tags_path bogon transit origin_tags) ≡ said_of own (past_hop (path_lines bogon transit lines_left))
  path_said true true transit = refl
  path_said false true transit = refl
  path_said true false true = refl
  path_said false false true = refl
  path_said own false false = origin_said rs own irr unlisted listed is_drop covered rpki st allowed empty

  module _ (route : Route) where
    abbrev said_end : Bool → List Line → End
    said_end own ls = accepts (record route { triples = base rs route ++ said_of own ls })

    abbrev pub hop_lines : Bool → Bool → Bool → List Line → List Line
    hop_lines first own beside ls = line FirstAsNotPeerAs first ∷ line NextHopNotPeer (not own && not beside) ∷ ls

    hop_said : (first own beside bogon transit : Bool)
        → hop_end rs route first own beside (tags_path bogon transit origin_tags) ≡ said_end own (past_net (hop_lines first own beside (path_lines bogon transit lines_left)))
    hop_said true own beside bogon transit = refl
    hop_said false true beside bogon transit = ap (λ ts. accepts (record route { triples = base rs route ++ ts })) (path_said true bogon transit)
    hop_said false false true bogon transit = ap (λ ts. accepts (record route { triples = base rs route ++ ts })) (path_said false bogon transit)
    hop_said false false false bogon transit = refl

    -- the whole table
    pub whole_said : (a b c d e f first own beside bogon transit : Bool)
        → net_end rs route (first_number ((a, 1) ∷ (b, 2) ∷ (c, 3) ∷ (d, 6) ∷ (e, 5) ∷ (f, 15) ∷ [])) (hop_end rs route first own beside (tags_path bogon transit origin_tags))
        ≡ said_end own
        (line PrefixTooLong a ∷ line PrefixTooShort b ∷ line Bogon c ∷ line PathEmpty d ∷ line PathTooLong e ∷ line TooManyCommunities f
        ∷ hop_lines first own beside (path_lines bogon transit lines_left))
    whole_said true b c d e f first own beside bogon transit = refl
    whole_said false true c d e f first own beside bogon transit = refl
    whole_said false false true d e f first own beside bogon transit = refl
    whole_said false false false true e f first own beside bogon transit = refl
    whole_said false false false false true f first own beside bogon transit = refl
    whole_said false false false false false true first own beside bogon transit = refl
    whole_said false false false false false false first own beside bogon transit = hop_said first own beside bogon transit
