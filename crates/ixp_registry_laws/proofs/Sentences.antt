-- The sentences of all rules, one by one.
use Rattle.std.proofs.Common.{◌≡◌, ℕ, List, Option, None}
use Rattle.std.specs.List.{AllByRecursion}
use Rattle.ixp_registry.specs.declared.rows.Rows.{Rows}
use Rattle.ixp_registry.specs.Registries.{breach}
use Rattle.ixp_registry.specs.Rules.{rules, rule_1_sentences, rule_2_sentences, rule_3_sentences, rule_4_sentences, rule_5_sentences, rule_6_sentences, rule_7_sentences, rule_8, rule_9, rule_10, rule_11_sentences, rule_12_sentences, rule_13_sentences, rule_14, rule_15_sentences, owner_limits, network_limits, list_limits, public_limits, sessions_are_light}
use Rattle.ixp_registry_laws.proofs.LineForms.{rules_kept, kept_rules, sentences_kept, kept_sentences}

abbrev pub AreKept : List (Option ℕ) → Type 0
AreKept places = AllByRecursion (λ p. p ≡ None) places

pub record Sentences (w : Rows) : Type 0 where
  pub one : AreKept (rule_1_sentences w)
  pub two : AreKept (rule_2_sentences w)
  pub three : AreKept (rule_3_sentences w)
  pub four : AreKept (rule_4_sentences w)
  pub five : AreKept (rule_5_sentences w)
  pub six : AreKept (rule_6_sentences w)
  pub seven : AreKept (rule_7_sentences w)
  pub eight : rule_8 w ≡ None
  pub nine : rule_9 w ≡ None
  pub ten : rule_10 w ≡ None
  pub eleven : AreKept (rule_11_sentences w)
  pub twelve : AreKept (rule_12_sentences w)
  pub owners : AreKept (owner_limits w)
  pub network : AreKept (network_limits w)
  pub lists : AreKept (list_limits w)
  pub public : AreKept (public_limits w)
  pub light : sessions_are_light w ≡ None
  pub fourteen : rule_14 w ≡ None
  pub fifteen : AreKept (rule_15_sentences w)

pub sentences : (w : Rows) → breach w ≡ None → Sentences w
sentences w e =
    let all = rules_kept 1 (rules w) e in
    let limits = sentences_kept (rule_13_sentences w) all.1.1.1.1.1.1.1.1.1.1.1.1.0 in
    record {
      one = sentences_kept (rule_1_sentences w) all.0;
      two = sentences_kept (rule_2_sentences w) all.1.0;
      three = sentences_kept (rule_3_sentences w) all.1.1.0;
      four = sentences_kept (rule_4_sentences w) all.1.1.1.0;
      five = sentences_kept (rule_5_sentences w) all.1.1.1.1.0;
      six = sentences_kept (rule_6_sentences w) all.1.1.1.1.1.0;
      seven = sentences_kept (rule_7_sentences w) all.1.1.1.1.1.1.0;
      eight = all.1.1.1.1.1.1.1.0;
      nine = all.1.1.1.1.1.1.1.1.0;
      ten = all.1.1.1.1.1.1.1.1.1.0;
      eleven = sentences_kept (rule_11_sentences w) all.1.1.1.1.1.1.1.1.1.1.0;
      twelve = sentences_kept (rule_12_sentences w) all.1.1.1.1.1.1.1.1.1.1.1.0;
      owners = sentences_kept (owner_limits w) limits.0;
      network = sentences_kept (network_limits w) limits.1.0;
      lists = sentences_kept (list_limits w) limits.1.1.0;
      public = sentences_kept (public_limits w) limits.1.1.1.0;
      light = limits.1.1.1.1.0;
      fourteen = all.1.1.1.1.1.1.1.1.1.1.1.1.1.0;
      fifteen = sentences_kept (rule_15_sentences w) all.1.1.1.1.1.1.1.1.1.1.1.1.1.1.0;
    }

pub unbroken : (w : Rows) → Sentences w → breach w ≡ None
unbroken w s =
    let limits : AreKept (rule_13_sentences w) =
    (kept_sentences (owner_limits w) s.owners, (kept_sentences (network_limits w) s.network, (kept_sentences (list_limits w) s.lists, (kept_sentences (public_limits w) s.public, (s.light, tt))))) in
    kept_rules 1 (rules w) (
      kept_sentences (rule_1_sentences w) s.one,
      (
        kept_sentences (rule_2_sentences w) s.two,
        (
          kept_sentences (rule_3_sentences w) s.three,
          (
            kept_sentences (rule_4_sentences w) s.four,
            (
              kept_sentences (rule_5_sentences w) s.five,
              (
                kept_sentences (rule_6_sentences w) s.six,
                (
                  kept_sentences (rule_7_sentences w) s.seven,
                  (
                    s.eight,
                    (
                      s.nine,
                      (
                        s.ten,
                        (kept_sentences (rule_11_sentences w) s.eleven, (kept_sentences (rule_12_sentences w) s.twelve, (kept_sentences (rule_13_sentences w) limits, (s.fourteen, (kept_sentences (rule_15_sentences w) s.fifteen, tt))))),
                      ),
                    ),
                  ),
                ),
              ),
            ),
          ),
        ),
      ),
    )
