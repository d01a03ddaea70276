-- The fields of a ROA's line, and the lines of routes.
use Rattle.std.proofs.Common.{◌≡◌, ◌≢◌, ℕ, true, false, ◌&&◌, nat_le, List, [], ◌∷◌, ◌++◌, codes, length, drop, Result, Ok, Err, sym, ap, ◌∙◌, subst, arith}
use Rattle.std.specs.List.{AllByRecursion, list_all}
use Rattle.std.proofs.lemmas.Bool.{and_parts}
use Rattle.ixp_num.specs.declared.prefix.Prefix.{Prefix}
use Rattle.ixp_num.specs.declared.asn.Asn.{Asn}
use Rattle.ixp_num.specs.declared.roa.Roa.{Roa}
use Rattle.ixp_num.specs.declared.fault.NumFault.{NumFault}
use Rattle.ixp_num.specs.Names.{is_name, is_name_byte}
use Rattle.ixp_num.specs.Forms.{IsDigit, IsDecimal}
use Rattle.ixp_num.specs.Answers.{AsnAnswer, PrefixAnswer}
use Rattle.ixp_num.proofs.NoBlanks.{prefix_no_blank}
use Rattle.ixp_num.proofs.OneAnswer.{one_asn, one_prefix}
use Rattle.ixp_eval_trial.specs.Cutting.{IsFree, IsCut, AreFields}
use Rattle.ixp_eval_trial.specs.Readings.{SayRoa}
use Rattle.ixp_eval_trial.specs.Trials.{IsRoaLine, IsRouteLine}
use Rattle.ixp_eval_trial.proofs.Cuts.{one_cut, not_marked}

pub no_table : (t : List ℕ) → IsFree 32 t → (table net max asn : List ℕ) → ¬ (AreFields t table net max asn)
no_table t free table net max asn are = not_marked 32 table (net ++ 32 ∷ (max ++ 32 ∷ asn)) (subst (IsFree 32) are.whole free)

pub no_net : (t table rest : List ℕ) → IsCut 32 t table rest → IsFree 32 rest → (a b c d : List ℕ) → ¬ (AreFields t a b c d)
no_net t table rest cut free a b c d are =
    let same = one_cut 32 table a rest (b ++ 32 ∷ (c ++ 32 ∷ d)) cut.1 are.table_free (sym cut.0 ∙ are.whole) in
    not_marked 32 b (c ++ 32 ∷ d) (subst (IsFree 32) same.1 free)

pub no_max : (t table rest net more : List ℕ) → IsCut 32 t table rest → IsCut 32 rest net more → IsFree 32 more → (a b c d : List ℕ) → ¬ (AreFields t a b c d)
no_max t table rest net more cut next free a b c d are =
    let same = one_cut 32 table a rest (b ++ 32 ∷ (c ++ 32 ∷ d)) cut.1 are.table_free (sym cut.0 ∙ are.whole) in
    let then_same = one_cut 32 net b more (c ++ 32 ∷ d) next.1 are.net_free (sym next.0 ∙ same.1) in
    not_marked 32 c d (subst (IsFree 32) then_same.1 free)

pub fields_are : (t table rest net more max asn : List ℕ) → IsCut 32 t table rest → IsCut 32 rest net more → IsCut 32 more max asn → AreFields t table net max asn
fields_are t table rest net more max asn first second third = record {
  whole = first.0 ∙ ap (λ r. table ++ 32 ∷ r) (second.0 ∙ ap (λ r. net ++ 32 ∷ r) third.0);
  table_free = first.1;
  net_free = second.1;
  max_free = third.1;
}

-- no two texts of four fields are one
pub same_fields : (t a b c d a' b' c' d' : List ℕ) → AreFields t a b c d → AreFields t a' b' c' d' → (a ≡ a') × (b ≡ b') × (c ≡ c') × (d ≡ d')
same_fields t a b c d a' b' c' d' are are' =
    let one = one_cut 32 a a' (b ++ 32 ∷ (c ++ 32 ∷ d)) (b' ++ 32 ∷ (c' ++ 32 ∷ d')) are.table_free are'.table_free (sym are.whole ∙ are'.whole) in
    let two = one_cut 32 b b' (c ++ 32 ∷ d) (c' ++ 32 ∷ d') are.net_free are'.net_free one.1 in
    let three = one_cut 32 c c' d d' are.max_free are'.max_free two.1 in
    (one.0, two.0, three.0, three.1)

-- no name and no number has a blank

byte_apart : (c : ℕ) → is_name_byte c ≡ true → c ≢ 32
byte_apart c is e = let both : false ≡ true = ap is_name_byte (sym e) ∙ is in absurd cc

bytes_free : (t : List ℕ) → list_all is_name_byte t ≡ true → IsFree 32 t
bytes_free [] is = tt
bytes_free (c ∷ cs) is = let both = and_parts (is_name_byte c) (list_all is_name_byte cs) is in (byte_apart c both.0, bytes_free cs both.1)

pub name_free : (t : List ℕ) → is_name t ≡ true → IsFree 32 t
name_free t is = bytes_free t (and_parts (nat_le 1 (length t) && nat_le (length t) 64) (list_all is_name_byte t) is).1

digits_free : (t : List ℕ) → AllByRecursion IsDigit t → IsFree 32 t
digits_free [] are = tt
digits_free (c ∷ cs) are = ((λ e. let low = are.0.0 in omega arith), digits_free cs are.1)

pub decimal_free : (t : List ℕ) (n : ℕ) → IsDecimal t n → IsFree 32 t
decimal_free [] n is = tt
decimal_free (c ∷ cs) n is = ((λ e. let low = is.0.0 in omega arith), digits_free cs is.2)

-- the fields of a ROA's line

pub whole_fields : (l rest table : List ℕ) (roa : Roa) → (line : IsRoaLine l table roa) → rest ≡ table ++ 32 ∷ (line.net ++ 32 ∷ (line.max ++ 32 ∷ line.asn)) → AreFields rest table line.net line.max line.asn
whole_fields l rest table roa line e = record {
  whole = e;
  table_free = name_free table line.is_table;
  net_free = prefix_no_blank line.net roa.prefix line.is_net;
  max_free = decimal_free line.max roa.max line.is_max;
}

pub line_fields : (rest table : List ℕ) (roa : Roa) → (line : IsRoaLine (codes "roa " ++ rest) table roa) → AreFields rest table line.net line.max line.asn
line_fields rest table roa line = whole_fields (codes "roa " ++ rest) rest table roa line (ap (drop 4) line.whole)

pub no_line : (rest : List ℕ) → ((table net max asn : List ℕ) → ¬ (AreFields rest table net max asn)) → (table : List ℕ) (roa : Roa) → ¬ (IsRoaLine (codes "roa " ++ rest) table roa)
no_line rest none table roa line = none table line.net line.max line.asn (line_fields rest table roa line)

pub no_name : (rest a b c d : List ℕ) → AreFields rest a b c d → is_name a ≡ false → (table : List ℕ) (roa : Roa) → ¬ (IsRoaLine (codes "roa " ++ rest) table roa)
no_name rest a b c d are other table roa line =
    let same = same_fields rest a b c d table line.net line.max line.asn are (line_fields rest table roa line) in
    let both : false ≡ true = sym other ∙ ap is_name same.0 ∙ line.is_table in
    absurd cc

pub no_roa : (rest a b c d : List ℕ) → AreFields rest a b c d → ((roa : Roa) → ¬ (SayRoa b c d roa)) → (table : List ℕ) (roa : Roa) → ¬ (IsRoaLine (codes "roa " ++ rest) table roa)
no_roa rest a b c d are none table roa line =
    let same = same_fields rest a b c d table line.net line.max line.asn are (line_fields rest table roa line) in
    none roa (
      subst (λ t. PrefixAnswer t (Ok roa.prefix)) (sym same.1) line.is_net,
      (subst (λ t. IsDecimal t roa.max) (sym same.2) line.is_max, line.is_low),
      subst (λ t. AsnAnswer t (Ok roa.asn)) (sym same.3) line.is_asn,
    )

pub is_line : (rest a b c d : List ℕ) (roa : Roa) → AreFields rest a b c d → is_name a ≡ true → SayRoa b c d roa → IsRoaLine (codes "roa " ++ rest) a roa
is_line rest a b c d roa are name say = record {
  net = b;
  max = c;
  asn = d;
  whole = ap (λ t. codes "roa " ++ t) are.whole;
  is_table = name;
  is_net = say.0;
  is_max = say.1.0;
  is_low = say.1.1;
  is_asn = say.2;
}

-- the fields behind the table

pub no_net_field : (net max asn : List ℕ) (e : NumFault) → PrefixAnswer net (Err e) → (roa : Roa) → ¬ (SayRoa net max asn roa)
no_net_field net max asn e is roa say = let same : ◌≡◌ {A = Result Prefix NumFault} (Err e) (Ok roa.prefix) = one_prefix net (Err e) (Ok roa.prefix) is say.0 in absurd cc

pub no_asn_field : (net max asn : List ℕ) (e : NumFault) → AsnAnswer asn (Err e) → (roa : Roa) → ¬ (SayRoa net max asn roa)
no_asn_field net max asn e is roa say = let same : ◌≡◌ {A = Result Asn NumFault} (Err e) (Ok roa.asn) = one_asn asn (Err e) (Ok roa.asn) is say.2 in absurd cc

-- a route's line

pub no_session : (line rest : List ℕ) → line ≡ codes "route " ++ rest → IsFree 32 rest → (session text : List ℕ) → ¬ (IsRouteLine line session text)
no_session line rest e free session text is =
    not_marked 32 session text (subst (IsFree 32) (ap (λ t. drop 6 t) (sym e ∙ is.0)) free)

pub no_session_name : (line rest a b : List ℕ) → line ≡ codes "route " ++ rest → IsCut 32 rest a b → is_name a ≡ false → (session text : List ℕ) → ¬ (IsRouteLine line session text)
no_session_name line rest a b e cut other session text is =
    let same = one_cut 32 a session b text cut.1 (name_free session is.1) (sym cut.0 ∙ ap (λ t. drop 6 t) (sym e ∙ is.0)) in
    let both : false ≡ true = sym other ∙ ap is_name same.0 ∙ is.1 in
    absurd cc
