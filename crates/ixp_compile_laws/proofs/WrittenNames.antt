-- The names in generated texts are names that texts have.
use Rattle.std.proofs.Common.{◌≡◌, ℕ, ◌<◌, ◌≤◌, ◌^◌, Bool, true, false, ◌||◌, nat_le, List, [], ◌∷◌, codes, decimal, refl, arith, le-leb, lit≤, rules}
use Rattle.std.specs.List.{list_all, AllByRecursion}
use Rattle.std.proofs.lemmas.Bool.{and_from}
use Rattle.std.proofs.lemmas.Fmt.{digits_decimal}
use Rattle.std.proofs.lemmas.Str.Parse.{IsNumeralModel, numerals_by_fold}
use Rattle.ixp_num.specs.declared.family.Family.{Family}
use Rattle.ixp_num.specs.declared.family.Family.TheVariants.{V4, V6}
use Rattle.ixp_num.specs.Names.{is_within}
use Rattle.ixp_num.specs.Forms.{IsDigit, value_after}
use Rattle.ixp_lang_tokens.specs.Bytes.{is_letter, is_word_byte}
use Rattle.ixp_lang_tokens.specs.Words.{is_profile_word, is_foreign_word}
use Rattle.ixp_lang.proofs.NumberedNames.{numbered_is_name}
use Rattle.ixp_compile.specs.Pieces.{master, roas}
use Rattle.ixp_compile.specs.Fragment.{table_name, irr_name, origins_name, blackhole_name, in_name, up_name, receive_name, down_name, pipe_name, bgp_name}
use Rattle.ixp_compile_laws.proofs.WrittenTokens.{is_word_name}

-- Names of the head.

pub record HeadNames : Type 0 where
  pub drop : is_word_name (codes "ixp_drop") ≡ true
  pub net : is_word_name (codes "ixp_net") ≡ true
  pub as_numbers : is_word_name (codes "ixp_as") ≡ true
  pub transit : is_word_name (codes "ixp_transit") ≡ true
  pub blackhole : is_word_name (codes "ixp_bh") ≡ true
  pub sends : is_word_name (codes "ixp_sends") ≡ true
  pub count : is_word_name (codes "ixp_count") ≡ true
  pub pad : is_word_name (codes "ixp_pad") ≡ true
  pub out : is_word_name (codes "ixp_out") ≡ true
  pub bogons : is_word_name (codes "ixp_bogons") ≡ true
  pub bogon_as : is_word_name (codes "ixp_bogon_as") ≡ true
  pub transit_as : is_word_name (codes "ixp_transit_as") ≡ true
  pub n : is_word_name (codes "n") ≡ true
  pub p : is_word_name (codes "p") ≡ true

pub head_names : HeadNames
unfolding is_word_name is_profile_word is_foreign_word
head_names = record {
  drop = refl;
  net = refl;
  as_numbers = refl;
  transit = refl;
  blackhole = refl;
  sends = refl;
  count = refl;
  pad = refl;
  out = refl;
  bogons = refl;
  bogon_as = refl;
  transit_as = refl;
  n = refl;
  p = refl;
}

pub master_named : (f : Family) → is_word_name (master f) ≡ true
unfolding is_word_name is_profile_word is_foreign_word
master_named V4 = refl
master_named V6 = refl

pub roas_named : (f : Family) → is_word_name (roas f) ≡ true
unfolding is_word_name is_profile_word is_foreign_word
roas_named V4 = refl
roas_named V6 = refl

-- Names with an interface's number.

own : IsNumeralModel (AllByRecursion IsDigit) (value_after 0)
own = numerals_by_fold _ (search rules) value_after (search rules)

word_digit : (d : ℕ) → IsDigit d → is_word_byte d ≡ true
word_digit d h =
    let e : is_within 48 57 d ≡ true = and_from (nat_le 48 d) (nat_le d 57) (le-leb 48 d h.0) (le-leb d 57 h.1) in last_true (is_letter d) e
  where
    last_true : (a : Bool) {b : Bool} → b ≡ true → (a || b) ≡ true
    last_true true e = refl
    last_true false e = e

word_digits : (ds : List ℕ) → AllByRecursion IsDigit ds → list_all is_word_byte ds ≡ true
word_digits [] h = refl
word_digits (d ∷ ds) h = and_from (is_word_byte d) _ (word_digit d h.0) (word_digits ds h.1)

pub record SessionNames (n : ℕ) : Type 0 where
  pub table : is_word_name (table_name n) ≡ true
  pub irr : is_word_name (irr_name n) ≡ true
  pub origins : is_word_name (origins_name n) ≡ true
  pub blackholes : is_word_name (blackhole_name n) ≡ true
  pub inward : is_word_name (in_name n) ≡ true
  pub up : is_word_name (up_name n) ≡ true
  pub receive : is_word_name (receive_name n) ≡ true
  pub down : is_word_name (down_name n) ≡ true
  pub pipe : is_word_name (pipe_name n) ≡ true
  pub bgp : is_word_name (bgp_name n) ≡ true

pub session_names : (n : ℕ) → n < 2 ^ 32 → SessionNames n
unfolding is_word_name is_profile_word is_foreign_word
session_names n small = record {
  table = rw (numbered_is_name (codes "t_") n refl (lit≤ tt) small, bytes) refl;
  irr = rw (numbered_is_name (codes "irr_") n refl (lit≤ tt) small, bytes) refl;
  origins = rw (numbered_is_name (codes "org_") n refl (lit≤ tt) small, bytes) refl;
  blackholes = rw (numbered_is_name (codes "bh_") n refl (lit≤ tt) small, bytes) refl;
  inward = rw (numbered_is_name (codes "in_") n refl (lit≤ tt) small, bytes) refl;
  up = rw (numbered_is_name (codes "up_") n refl (lit≤ tt) small, bytes) refl;
  receive = rw (numbered_is_name (codes "rx_") n refl (lit≤ tt) small, bytes) refl;
  down = rw (numbered_is_name (codes "down_") n refl (lit≤ tt) small, bytes) refl;
  pipe = rw (numbered_is_name (codes "pp_") n refl (lit≤ tt) small, bytes) refl;
  bgp = rw (numbered_is_name (codes "b_") n refl (lit≤ tt) small, bytes) refl;
}
  where
    wide : n < 2 ^ 64
    wide = omega (arith, small)

    bytes : list_all is_word_byte (decimal n) ≡ true
    bytes = word_digits (decimal n) (digits_decimal own n wide)
