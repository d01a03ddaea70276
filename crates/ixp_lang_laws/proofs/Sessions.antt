-- Tables, pipes and sessions are spelt by their canonical tokens.
use Rattle.std.proofs.Common.{◌≡◌, ℕ, inl, inr, Bool, true, false, List, Option, Some, None, codes, refl, sym, subst, if◌then◌else◌}
use Rattle.ixp_num.specs.declared.family.Family.{Family}
use Rattle.ixp_num.specs.declared.family.Family.TheVariants.{V4, V6}
use Rattle.ixp_lang_tokens.specs.declared.token.Kind.{Kind}
use Rattle.ixp_lang_tokens.specs.declared.token.Mark.TheVariants as mark
use Rattle.ixp_lang_tokens.specs.declared.fault.Cause.{Cause}
use Rattle.ixp_lang_tokens.specs.Grammars.{sequence, Took}
use Rattle.ixp_lang_tokens.specs.Pieces.{the_word}
use Rattle.ixp_lang.specs.declared.item.Use.{Use}
use Rattle.ixp_lang.specs.declared.item.Use.TheVariants.{Named}
use Rattle.ixp_lang_exprs.specs.declared.env.Table.{Table}
use Rattle.ixp_lang_exprs.specs.Names.{Names, table_of}
use Rattle.ixp_lang_exprs.specs.Declarations.{Declares}
use Rattle.ixp_lang_protocols.specs.Protocols.{is_filter, use_form, Ways, ways_form, Owner, filler, peer_pipe, session, was_taken, taken_fault, Owned, owned_table, device_end, Ends, ends_form, pipe_end, Local, local_form, Neighbor, neighbor_form, client_form, password_form, limit_form, family_form, Channel, channel_form, Peering, peering_form, bgp_end, protocol_end}
use Rattle.ixp_print.specs.Texts.{channel_text as family_word}
use Rattle.ixp_lang_laws.specs.Canonical.{Before, word, sign, addr_tokens}
use Rattle.ixp_lang_laws.specs.CanonicalItems.{use_tokens, ways_tokens, table_tokens, asn_tokens, local_tokens, client_tokens, password_tokens, limit_tokens, item_tokens}
use Rattle.ixp_lang_laws.proofs.Basics.{is_so, so_again}
use Rattle.ixp_lang_laws.proofs.Bodies.{free_again}

module _ (names : Names) where
  use_again : (u : Use) (ts rest : List Kind) → Took (use_form names) u ts rest → (others : List Kind) → Took (use_form names) u (use_tokens u others) others
  use_again u ts rest (inl (x, a, word_, (y, b, semicolon, (is, same)))) others =
      subst (λ z. Took (use_form names) z (use_tokens z others) others) (sym is) (inl (tt, _, (refl, refl), (tt, _, (refl, refl), (refl, refl))))
  use_again u ts rest (inr (inl (x, a, word_, (y, b, semicolon, (is, same))))) others =
      subst (λ z. Took (use_form names) z (use_tokens z others) others) (sym is) (inr (inl (tt, _, (refl, refl), (tt, _, (refl, refl), (refl, refl)))))
  use_again u ts rest (inr (inr (x, a, word_, (n, b, (found, c, token, (fit, (is_n, same_n))), (y, d, semicolon, (is, same)))))) others =
      subst (λ z. Took (use_form names) z (use_tokens z others) others) (sym is)
      (subst (λ z. Took (use_form names) (Named z) (use_tokens (Named z) others) others) (sym is_n)
      (inr (inr (tt, _, (refl, refl), (found, _, (found, _, (refl, refl), (so_again _ _ (is_so (is_filter (names found)) _ fit), (refl, refl))), (tt, _, (refl, refl), (refl, refl)))))))

  ways_again : (ways : Ways) (ts rest : List Kind) → Took (ways_form names) ways ts rest → (others : List Kind) → Took (ways_form names) ways (ways_tokens ways.inward ways.outward others) others
  ways_again ways ts rest (x, a, import_, (inward, b, took_in, (y, c, export_, (outward, d, took_out, (is, same))))) others =
      subst (λ (z : Ways). Took (ways_form names) z (ways_tokens z.inward z.outward others) others) (sym is)
      (tt, _, (refl, refl), (inward, _, use_again inward a b took_in _, (tt, _, (refl, refl), (outward, _, use_again outward c d took_out others, (refl, refl)))))

-- Tables.

not_taken : (b : Bool) (fault other : Cause × ℕ) → ◌≡◌ {A = Option (Cause × ℕ)} (if b then Some fault else None) None → ◌≡◌ {A = Option (Cause × ℕ)} (if b then Some other else None) None
not_taken false fault other e = refl
not_taken true fault other e = absurd cc

taken_again : (owner : Owner) (t : Option Table) (left other : ℕ) → taken_fault owner t left ≡ None → taken_fault owner t other ≡ None
taken_again owner None left other e = absurd cc
taken_again owner (Some table) left other e = not_taken (was_taken owner table) _ _ e

table_again : (owner : Owner) (names : Names) (o : Owned) (ts rest : List Kind) → Took (owned_table owner names) o ts rest → (others : List Kind) → Took (owned_table owner names) o (table_tokens o.name others) others
table_again owner names o ts rest (x, a, table_, (n, b, token, (fit, (y, c, semicolon, (is, same))))) others =
    subst (λ (z : Owned). Took (owned_table owner names) z (table_tokens z.name others) others) (sym is)
    (tt, _, (refl, refl), (n, _, (refl, refl), (taken_again owner (table_of (names n)) _ _ fit, (tt, _, (refl, refl), (refl, refl)))))

-- Protocols, behind the word.
abbrev ProtocolAgain : Names → Declares → Type 0
ProtocolAgain names d = (others : List Kind) → Took (sequence (the_word (codes "protocol")) (λ tt. protocol_end names)) d (item_tokens d.0 others) others

device_again : (names : Names) (d : Declares) (ts rest : List Kind) → Took (device_end names) d ts rest → ProtocolAgain names d
device_again names d ts rest (inl (x, a, open_, (y, b, close, (is, same)))) =
    subst (ProtocolAgain names) (sym is) (λ others. (tt, _, (refl, refl), inl (tt, _, (refl, refl), inl (tt, _, (refl, refl), (tt, _, (refl, refl), (refl, refl))))))
device_again names d ts rest (inr (n, a, free, (x, b, open_, (y, c, close, (is, same))))) =
    subst (ProtocolAgain names) (sym is)
    (λ others. (tt, _, (refl, refl), inl (tt, _, (refl, refl), inr (n, _, free_again names n ts a free _, (tt, _, (refl, refl), (tt, _, (refl, refl), (refl, refl)))))))

ends_again : (names : Names) (e : Ends) (ts rest : List Kind) → Took (ends_form names) e ts rest → (others : List Kind)
    → Took (ends_form names) e (table_tokens e.table (word (codes "peer") (table_tokens e.peer others))) others
ends_again names e ts rest (table, a, took, (x, b, peer_, (peer, c, took_peer, (is, same)))) others =
    subst (λ (z : Ends). Took (ends_form names) z (table_tokens z.table (word (codes "peer") (table_tokens z.peer others))) others) (sym is)
    (table, _, table_again filler names table ts a took _, (tt, _, (refl, refl), (peer, others, table_again peer_pipe table.names peer b c took_peer others, (refl, refl))))

pipe_again : (names : Names) (d : Declares) (ts rest : List Kind) → Took (pipe_end names) d ts rest → ProtocolAgain names d
pipe_again names d ts rest (n, a, free, (x, b, open_, (ends, c, took, (ways, e, let_, (y, f, close, (is, same)))))) =
    subst (ProtocolAgain names) (sym is) (λ others. (
      tt,
      _,
      (refl, refl),
      inr (inl (
        tt,
        _,
        (refl, refl),
        (
          n,
          _,
          free_again names n ts a free _,
          (
            tt,
            _,
            (refl, refl),
            (ends, _, ends_again names ends b c took _, (ways, _, ways_again ends.names ways c e let_ _, (tt, _, (refl, refl), (refl, refl)))),
          ),
        ),
      )),
    ))

-- Sessions.

local_again : (l : Local) (ts rest : List Kind) → Took local_form l ts rest → (others : List Kind) → Took local_form l (word (codes "local") (local_tokens l.addr (asn_tokens l.asn.0 others))) others
local_again l ts rest (x, a, local_, inl (addr, b, token, (asn, c, (y, d, as_, (n, e, number_, (z, f, semicolon, (is_n, same_n)))), (is, same)))) others =
    subst (λ (v : Local). Took local_form v (word (codes "local") (local_tokens v.addr (asn_tokens v.asn.0 others))) others) (sym is)
    (tt, _, (refl, refl), inl (addr, _, (refl, refl), (asn, _, (tt, _, (refl, refl), (asn.0, _, (refl, refl), (tt, _, (refl, refl), (refl, refl)))), (refl, refl))))
local_again l ts rest (x, a, local_, inr (asn, c, took, (is, same))) others =
    subst (λ (v : Local). Took local_form v (word (codes "local") (local_tokens v.addr (asn_tokens v.asn.0 others))) others) (sym is)
    (tt, _, (refl, refl), inr (asn, _, (tt, _, (refl, refl), (asn.0, _, (refl, refl), (tt, _, (refl, refl), (refl, refl)))), (refl, refl)))

pub neighbor_spells : (v : Neighbor) (others : List Kind) → Took neighbor_form v (word (codes "neighbor") (addr_tokens v.addr (asn_tokens v.asn.0 others))) others
neighbor_spells v others = (tt, _, (refl, refl), (v.addr, _, (refl, refl), (v.asn, _, (tt, _, (refl, refl), (v.asn.0, _, (refl, refl), (tt, _, (refl, refl), (refl, refl)))), (refl, refl))))

pub client_spells : (b : Bool) (others : List Kind) → Took client_form b (client_tokens b others) others
client_spells true others = inl (tt, _, (refl, refl), (tt, _, (refl, refl), (tt, _, (refl, refl), (refl, refl))))
client_spells false others = inr (refl, refl)

pub password_spells : (p : Option (List ℕ)) (others : List Kind) → Took password_form p (password_tokens p others) others
password_spells (Some p) others = inl (tt, _, (refl, refl), (p, _, (refl, refl), (tt, _, (refl, refl), (refl, refl))))
password_spells None others = inr (refl, refl)

pub limit_spells : (n : Option ℕ) (others : List Kind) → Took limit_form n (limit_tokens n others) others
limit_spells (Some n) others =
    inl (tt, _, (refl, refl), (tt, _, (refl, refl), (n, _, (refl, refl), (tt, _, (refl, refl), (tt, _, (refl, refl), (tt, _, (refl, refl), (refl, refl)))))))
limit_spells None others = inr (refl, refl)

pub family_spells : (f : Family) (others : List Kind) → Took family_form f (word (family_word f) others) others
family_spells V4 others = inl (tt, _, (refl, refl), (refl, refl))
family_spells V6 others = inr (tt, _, (refl, refl), (refl, refl))

peering_again : (p : Peering) (ts rest : List Kind) → Took peering_form p ts rest → (others : List Kind)
    → Took peering_form p (word (codes "local") (local_tokens p.here_.addr (asn_tokens p.here_.asn.0 (word (codes "neighbor") (addr_tokens p.there.addr (asn_tokens p.there.asn.0 (client_tokens p.rs_client (password_tokens p.password others)))))))) others
peering_again p ts rest (here_, a, took, (there, b, tb, (client, c, tc, (password, d, td, (is, same))))) others =
    subst
    (λ (p : Peering). Took peering_form p (word (codes "local") (local_tokens p.here_.addr (asn_tokens p.here_.asn.0 (word (codes "neighbor") (addr_tokens p.there.addr (asn_tokens p.there.asn.0 (client_tokens p.rs_client (password_tokens p.password others)))))))) others)
    (sym is)
    (here_, _, local_again here_ ts a took _, (there, _, neighbor_spells there _, (client, _, client_spells client _, (password, _, password_spells password others, (refl, refl)))))

abbrev channel_tokens_of : Channel → Before
channel_tokens_of c rest =
    word (family_word c.family) (sign mark.BlockOpen (table_tokens c.table (ways_tokens c.ways.inward c.ways.outward (limit_tokens c.limit (sign mark.BlockClose (sign mark.Semicolon rest))))))

channel_again : (names : Names) (c : Channel) (ts rest : List Kind) → Took (channel_form names) c ts rest → (others : List Kind) → Took (channel_form names) c (channel_tokens_of c others) others
channel_again names ch ts rest (family, a, ta, (x, b, open_, (table, c, tc, (ways, d, td, (limit, e, te, (y, f, close, (z, g, semicolon, (is, same)))))))) others =
    subst (λ z. Took (channel_form names) z (channel_tokens_of z others) others) (sym is) (
      family,
      _,
      family_spells family _,
      (
        tt,
        _,
        (refl, refl),
        (
          table,
          _,
          table_again session names table b c tc _,
          (ways, _, ways_again table.names ways c d td _, (limit, _, limit_spells limit _, (tt, _, (refl, refl), (tt, _, (refl, refl), (refl, refl))))),
        ),
      ),
    )

bgp_again : (names : Names) (d : Declares) (ts rest : List Kind) → Took (bgp_end names) d ts rest → ProtocolAgain names d
bgp_again names d ts rest (n, a, free, (x, b, open_, (peering, c, took, (channel, e, te, (y, f, close, (is, same)))))) =
    subst (ProtocolAgain names) (sym is) (λ others. (
      tt,
      _,
      (refl, refl),
      inr (inr (
        tt,
        _,
        (refl, refl),
        (
          n,
          _,
          free_again names n ts a free _,
          (
            tt,
            _,
            (refl, refl),
            (peering, _, peering_again peering b c took _, (channel, _, channel_again names channel c e te _, (tt, _, (refl, refl), (refl, refl)))),
          ),
        ),
      )),
    ))

-- what follows `protocol`
pub protocol_again : (names : Names) (d : Declares) (ts rest : List Kind) → Took (protocol_end names) d ts rest → (others : List Kind)
    → Took (sequence (the_word (codes "protocol")) (λ tt. protocol_end names)) d (item_tokens d.0 others) others
protocol_again names d ts rest (inl (x, a, word_, took)) = device_again names d a rest took
protocol_again names d ts rest (inr (inl (x, a, word_, took))) = pipe_again names d a rest took
protocol_again names d ts rest (inr (inr (x, a, word_, took))) = bgp_again names d a rest took
