-- The printed text of statements has their canonical tokens.
use Rattle.std.proofs.Common.{◌≡◌, ℕ, Bool, true, false, List, [], ◌∷◌, ◌++◌, codes, refl}
use Rattle.ixp_num_tables.specs.Joined.{joined, more_joined}
use Rattle.ixp_lang.specs.declared.stmt.Label.{Label}
use Rattle.ixp_lang.specs.declared.stmt.Label.TheVariants.{Range as Between, State as IsState}
use Rattle.ixp_lang.specs.Trees.{ExprTree, StmtTree, block, if_then, case_of, return_value, accept, reject, call_statement, set_next_hop, prepend, add_pair, delete_pairs, add_triple, delete_triples, StmtTrees, stmts_end, stmts_more, ArmTrees, arms_end, arms_more}
use Rattle.ixp_lang_tokens.specs.declared.token.Kind.{Kind}
use Rattle.ixp_lang_tokens.specs.declared.token.Mark.TheVariants as mark
use Rattle.ixp_lang_tokens.specs.Bytes.{begins_with, is_digit, is_word_byte}
use Rattle.ixp_lang_tokens.specs.Words.{is_profile_word}
use Rattle.ixp_lang_tokens.specs.Written.{FewColons, NoOctet, joins}
use Rattle.ixp_print.specs.Texts.{state_text, expr_text, exprs_text, line, deeper, label_text, no_stmts, else_line, stmt_text, stmts_text, arms_text}
use Rattle.ixp_lang_laws.specs.Canonical.{Before, word, sign, more_of, list_of, expr_tokens}
use Rattle.ixp_lang_laws.specs.CanonicalItems.{label_tokens, last_tokens, change_tokens, stmt_tokens, stmts_tokens, else_tokens, other_tokens, arms_tokens}
use Rattle.ixp_lang_laws.proofs.Steps.{Reads, parted, blank_reads, name_reads, word_reads, mark_reads, sign_reads, colon_reads}
use Rattle.ixp_lang_laws.proofs.PrintedSets.{IsWord, state_word, bounds_reads, comma}
use Rattle.ixp_lang_laws.proofs.PrintedExpressions.{close, expr_prints, exprs_prints}

-- whole lines have these tokens
abbrev pub Lines : List ℕ → Before → Type 0
Lines text tokens = (rest : List ℕ) (behind : List Kind) → Reads rest behind → Reads (text ++ rest) (tokens behind)

-- blanks
abbrev pub Indent : List ℕ → Type 0
Indent i = (rest : List ℕ) (behind : List Kind) → Reads rest behind → Reads (i ++ rest) behind

pub deep : (i : List ℕ) → Indent i → Indent (deeper i)
deep i indent rest behind reads = parted i (codes "  ") rest behind (indent _ _ (blank_reads _ _ _ refl (blank_reads _ _ _ refl reads)))

pub line_reads : (i text rest : List ℕ) (tokens : List Kind) → Indent i → Reads (text ++ (10 ∷ rest)) tokens → Reads (line i text ++ rest) tokens
unfolding line
line_reads i text rest tokens indent reads = parted (i ++ text) (10 ∷ []) rest tokens (parted i text (10 ∷ rest) tokens (indent _ _ reads))

pub new_line : (rest : List ℕ) (behind : List Kind) → Reads rest behind → Reads (10 ∷ rest) behind
new_line rest behind reads = blank_reads rest (10 ∷ rest) behind refl reads

pub blank : (rest : List ℕ) (behind : List Kind) → Reads rest behind → Reads (32 ∷ rest) behind
blank rest behind reads = blank_reads rest (32 ∷ rest) behind refl reads

-- a word and a blank
pub word_blank : (w rest : List ℕ) (behind : List Kind) → IsWord w → Reads rest behind → Reads (w ++ (32 ∷ rest)) (word w behind)
word_blank w rest behind is reads = word_reads w (32 ∷ rest) behind is.0 is.1 is.2 refl refl (blank rest behind reads)

-- a word and a semicolon at the end of a line
pub word_end : (w rest : List ℕ) (behind : List Kind) → IsWord w → Reads rest behind → Reads (w ++ (59 ∷ 10 ∷ rest)) (word w (sign mark.Semicolon behind))
word_end w rest behind is reads = word_reads w (59 ∷ 10 ∷ rest) _ is.0 is.1 is.2 refl refl (sign_reads mark.Semicolon _ _ refl (new_line rest behind reads))

pub semicolon : (rest : List ℕ) (behind : List Kind) → Reads rest behind → Reads (59 ∷ 10 ∷ rest) (sign mark.Semicolon behind)
semicolon rest behind reads = sign_reads mark.Semicolon _ _ refl (new_line rest behind reads)

pub open_block : (rest : List ℕ) (behind : List Kind) → Reads rest behind → Reads (123 ∷ 10 ∷ rest) (sign mark.BlockOpen behind)
open_block rest behind reads = sign_reads mark.BlockOpen _ _ refl (new_line rest behind reads)

pub close_line : (i : List ℕ) → Indent i → Lines (line i (codes "}")) (sign mark.BlockClose)
close_line i indent rest behind reads = line_reads i (codes "}") rest _ indent (sign_reads mark.BlockClose _ _ refl (new_line rest behind reads))

pub last_reads : (e : ExprTree) (rest : List ℕ) (behind : List Kind) → Reads rest behind → Reads ((expr_text e ++ codes ";") ++ (10 ∷ rest)) (last_tokens e behind)
last_reads e rest behind reads = parted (expr_text e) (codes ";") (10 ∷ rest) _ (expr_prints e (59 ∷ 10 ∷ rest) _ refl (semicolon rest behind reads))

change_reads : (list change : List ℕ) → IsWord list → IsWord change → ((rest : List ℕ) → FewColons (46 ∷ (change ++ (40 ∷ rest)))) → ((rest : List ℕ) → joins mark.Dot (change ++ rest) ≡ false)
    → (e : ExprTree) (rest : List ℕ) (behind : List Kind) → Reads rest behind → Reads (list ++ (46 ∷ (change ++ (40 ∷ ((expr_text e ++ codes ");") ++ (10 ∷ rest)))))) (change_tokens list change e behind)
change_reads list change is so few apart e rest behind reads =
    word_reads list _ _ is.0 is.1 is.2 refl (few _)
    (mark_reads mark.Dot _ _ refl (apart _) refl
    (word_reads change _ _ so.0 so.1 so.2 refl refl
    (sign_reads mark.Open _ _ refl
    (parted (expr_text e) (codes ");") (10 ∷ rest) _
    (expr_prints e (41 ∷ 59 ∷ 10 ∷ rest) _ refl (close _ _ (semicolon rest behind reads)))))))

-- Labels.

-- what may stand behind a label
abbrev LabelEnd : List ℕ → Type 0
LabelEnd rest = (begins_with is_word_byte rest ≡ false) × (begins_with is_digit rest ≡ false) × FewColons rest × NoOctet rest

label_reads : (l : Label) (rest : List ℕ) (behind : List Kind) → LabelEnd rest → Reads rest behind → Reads (label_text l ++ rest) (label_tokens l behind)
label_reads (Between low high) rest behind end reads = bounds_reads low high rest behind end.1 end.3 end.2 reads
label_reads (IsState s) rest behind end reads = (let is : IsWord (state_text s) = state_word s in word_reads (state_text s) rest behind is.0 is.1 is.2 end.0 end.2 reads)

more_labels_reads : (ls : List Label) (rest : List ℕ) (behind : List Kind) → LabelEnd rest → Reads rest behind
    → LabelEnd (more_joined (codes ", ") label_text ls ++ rest) × Reads (more_joined (codes ", ") label_text ls ++ rest) (more_of label_tokens ls behind)
more_labels_reads [] rest behind end reads = (end, reads)
more_labels_reads (l ∷ ls) rest behind end reads =
    let more = more_labels_reads ls rest behind end reads in
    ((refl, refl, refl, refl), comma _ _ (parted (label_text l) (more_joined (codes ", ") label_text ls) rest _ (label_reads l _ _ more.0 more.1)))

labels_reads : (ls : List Label) (rest : List ℕ) (behind : List Kind) → LabelEnd rest → Reads rest behind → Reads (joined (codes ", ") label_text ls ++ rest) (list_of label_tokens ls behind)
labels_reads [] rest behind end reads = reads
labels_reads (l ∷ ls) rest behind end reads =
    let more = more_labels_reads ls rest behind end reads in
    parted (label_text l) (more_joined (codes ", ") label_text ls) rest _ (label_reads l _ _ more.0 more.1)

colon_line : (rest : List ℕ) (behind : List Kind) → Reads rest behind → Reads (58 ∷ 10 ∷ rest) (sign mark.Colon behind)
colon_line rest behind reads = colon_reads (10 ∷ rest) behind refl (new_line rest behind reads)

label_line : (i : List ℕ) → Indent i → (ls : List Label) → Lines (line i (joined (codes ", ") label_text ls ++ codes ":")) (λ behind. list_of label_tokens ls (sign mark.Colon behind))
label_line i indent ls rest behind reads =
    line_reads i _ rest _ indent (parted (joined (codes ", ") label_text ls) (codes ":") (10 ∷ rest) _
    (labels_reads ls (58 ∷ 10 ∷ rest) _ (refl, refl, refl, refl) (colon_line rest behind reads)))

-- What is done else.

else_reads : (i : List ℕ) → Indent i → (ts : StmtTrees) → Lines (stmts_text (deeper i) ts) (stmts_tokens ts) → (rest : List ℕ) (behind : List Kind) → Reads rest behind
    → Reads (else_line (no_stmts ts) i (codes "} else {") ++ (stmts_text (deeper i) ts ++ (line i (codes "}") ++ rest))) (sign mark.BlockClose (else_tokens ts behind))
unfolding is_profile_word
else_reads i indent stmts_end lines rest behind reads = close_line i indent rest behind reads
else_reads i indent (stmts_more s ss) lines rest behind reads =
    line_reads i (codes "} else {") _ _ indent
    (sign_reads mark.BlockClose _ _ refl
    (blank _ _ (word_blank (codes "else") _ _ (refl, refl, refl) (open_block _ _ (lines _ _ (close_line i indent rest behind reads))))))

other_reads : (i : List ℕ) → Indent i → (ts : StmtTrees) → Lines (stmts_text (deeper i) ts) (stmts_tokens ts) → (rest : List ℕ) (behind : List Kind) → Reads rest behind
    → Reads (else_line (no_stmts ts) i (codes "else:") ++ (stmts_text (deeper i) ts ++ rest)) (other_tokens ts behind)
unfolding is_profile_word
other_reads i indent stmts_end lines rest behind reads = reads
other_reads i indent (stmts_more s ss) lines rest behind reads =
    line_reads i (codes "else:") _ _ indent (word_reads (codes "else") _ _ refl refl refl refl refl (colon_line _ _ (lines _ _ reads)))

-- Heads.

if_line : (i : List ℕ) → Indent i → (e : ExprTree) → Lines (line i (codes "if " ++ expr_text e ++ codes " then {")) (λ behind. word (codes "if") (expr_tokens e (word (codes "then") (sign mark.BlockOpen behind))))
unfolding is_profile_word
if_line i indent e rest behind reads =
    line_reads i _ rest _ indent
    (word_blank (codes "if") _ _ (refl, refl, refl)
    (parted (expr_text e) (codes " then {") (10 ∷ rest) _
    (expr_prints e _ _ refl (blank _ _ (word_blank (codes "then") _ _ (refl, refl, refl) (open_block rest behind reads))))))

case_line : (i : List ℕ) → Indent i → (e : ExprTree) → Lines (line i (codes "case " ++ expr_text e ++ codes " {")) (λ behind. word (codes "case") (expr_tokens e (sign mark.BlockOpen behind)))
unfolding is_profile_word
case_line i indent e rest behind reads =
    line_reads i _ rest _ indent
    (word_blank (codes "case") _ _ (refl, refl, refl)
    (parted (expr_text e) (codes " {") (10 ∷ rest) _ (expr_prints e _ _ refl (blank _ _ (open_block rest behind reads)))))

-- Plain statements.

-- no statement is in it
abbrev is_plain : StmtTree → Bool
is_plain (block ss) = false
is_plain (if_then e ss ts) = false
is_plain (case_of e arms ts) = false
is_plain _ = true

plain_prints : (i : List ℕ) → Indent i → (s : StmtTree) → is_plain s ≡ true → Lines (stmt_text i s) (stmt_tokens s)
unfolding is_profile_word
plain_prints i indent (block ss) plain rest behind reads = absurd cc
plain_prints i indent (if_then e ss ts) plain rest behind reads = absurd cc
plain_prints i indent (case_of e arms ts) plain rest behind reads = absurd cc
plain_prints i indent (return_value e) plain rest behind reads = line_reads i _ rest _ indent (word_blank (codes "return") _ _ (refl, refl, refl) (last_reads e rest behind reads))
plain_prints i indent accept plain rest behind reads = line_reads i _ rest _ indent (word_end (codes "accept") rest behind (refl, refl, refl) reads)
plain_prints i indent reject plain rest behind reads = line_reads i _ rest _ indent (word_end (codes "reject") rest behind (refl, refl, refl) reads)
plain_prints i indent (call_statement n es) plain rest behind reads =
    line_reads i _ rest _ indent
    (parted ((n ++ codes "(") ++ exprs_text es) (codes ");") (10 ∷ rest) _
    (parted (n ++ codes "(") (exprs_text es) (41 ∷ 59 ∷ 10 ∷ rest) _
    (parted n (codes "(") (exprs_text es ++ (41 ∷ 59 ∷ 10 ∷ rest)) _
    (name_reads n _ _ refl (sign_reads mark.Open _ _ refl (exprs_prints es (41 ∷ 59 ∷ 10 ∷ rest) _ refl (close _ _ (semicolon rest behind reads))))))))
plain_prints i indent (set_next_hop e) plain rest behind reads =
    line_reads i _ rest _ indent (word_blank (codes "bgp_next_hop") _ _ (refl, refl, refl) (sign_reads mark.Equal _ _ refl (blank _ _ (last_reads e rest behind reads))))
plain_prints i indent (prepend e) plain rest behind reads =
    line_reads i _ rest _ indent (change_reads (codes "bgp_path") (codes "prepend") (refl, refl, refl) (refl, refl, refl) (λ r. refl) (λ r. refl) e rest behind reads)
plain_prints i indent (add_pair e) plain rest behind reads =
    line_reads i _ rest _ indent (change_reads (codes "bgp_community") (codes "add") (refl, refl, refl) (refl, refl, refl) (λ r. refl) (λ r. refl) e rest behind reads)
plain_prints i indent (delete_pairs e) plain rest behind reads =
    line_reads i _ rest _ indent (change_reads (codes "bgp_community") (codes "delete") (refl, refl, refl) (refl, refl, refl) (λ r. refl) (λ r. refl) e rest behind reads)
plain_prints i indent (add_triple e) plain rest behind reads =
    line_reads i _ rest _ indent (change_reads (codes "bgp_large_community") (codes "add") (refl, refl, refl) (refl, refl, refl) (λ r. refl) (λ r. refl) e rest behind reads)
plain_prints i indent (delete_triples e) plain rest behind reads =
    line_reads i _ rest _ indent (change_reads (codes "bgp_large_community") (codes "delete") (refl, refl, refl) (refl, refl, refl) (λ r. refl) (λ r. refl) e rest behind reads)

-- Statements.

mutual
  pub stmt_prints : (i : List ℕ) → Indent i → (s : StmtTree) → Lines (stmt_text i s) (stmt_tokens s)
  stmt_prints i indent (block ss) rest behind reads =
      parted (line i (codes "{") ++ stmts_text (deeper i) ss) (line i (codes "}")) rest _
      (parted (line i (codes "{")) (stmts_text (deeper i) ss) (line i (codes "}") ++ rest) _
      (line_reads i (codes "{") _ _ indent (open_block _ _ (stmts_prints (deeper i) (deep i indent) ss _ _ (close_line i indent rest behind reads)))))
  stmt_prints i indent (if_then e ss ts) rest behind reads =
      parted (((line i (codes "if " ++ expr_text e ++ codes " then {") ++ stmts_text (deeper i) ss) ++ else_line (no_stmts ts) i (codes "} else {")) ++ stmts_text (deeper i) ts) (line i (codes "}")) rest _
      (parted ((line i (codes "if " ++ expr_text e ++ codes " then {") ++ stmts_text (deeper i) ss) ++ else_line (no_stmts ts) i (codes "} else {")) (stmts_text (deeper i) ts) (line i (codes "}") ++ rest) _
      (parted (line i (codes "if " ++ expr_text e ++ codes " then {") ++ stmts_text (deeper i) ss) (else_line (no_stmts ts) i (codes "} else {")) (stmts_text (deeper i) ts ++ (line i (codes "}") ++ rest)) _
      (parted (line i (codes "if " ++ expr_text e ++ codes " then {")) (stmts_text (deeper i) ss) (else_line (no_stmts ts) i (codes "} else {") ++ (stmts_text (deeper i) ts ++ (line i (codes "}") ++ rest))) _
      (if_line i indent e _ _ (stmts_prints (deeper i) (deep i indent) ss _ _ (else_reads i indent ts (stmts_prints (deeper i) (deep i indent) ts) rest behind reads))))))
  stmt_prints i indent (case_of e arms ts) rest behind reads =
      parted (line i (codes "case " ++ expr_text e ++ codes " {") ++ ((arms_text (deeper i) arms ++ else_line (no_stmts ts) (deeper i) (codes "else:")) ++ stmts_text (deeper (deeper i)) ts)) (line i (codes "}")) rest _
      (parted (line i (codes "case " ++ expr_text e ++ codes " {")) ((arms_text (deeper i) arms ++ else_line (no_stmts ts) (deeper i) (codes "else:")) ++ stmts_text (deeper (deeper i)) ts) (line i (codes "}") ++ rest) _
      (case_line i indent e _ _
      (parted (arms_text (deeper i) arms ++ else_line (no_stmts ts) (deeper i) (codes "else:")) (stmts_text (deeper (deeper i)) ts) (line i (codes "}") ++ rest) _
      (parted (arms_text (deeper i) arms) (else_line (no_stmts ts) (deeper i) (codes "else:")) (stmts_text (deeper (deeper i)) ts ++ (line i (codes "}") ++ rest)) _
      (arms_prints (deeper i) (deep i indent) arms _ _
      (other_reads (deeper i) (deep i indent) ts (stmts_prints (deeper (deeper i)) (deep (deeper i) (deep i indent)) ts) _ _ (close_line i indent rest behind reads)))))))
  stmt_prints i indent s rest behind reads = plain_prints i indent s refl rest behind reads

  pub stmts_prints : (i : List ℕ) → Indent i → (ss : StmtTrees) → Lines (stmts_text i ss) (stmts_tokens ss)
  stmts_prints i indent stmts_end rest behind reads = reads
  stmts_prints i indent (stmts_more s ss) rest behind reads = parted (stmt_text i s) (stmts_text i ss) rest _ (stmt_prints i indent s _ _ (stmts_prints i indent ss rest behind reads))

  arms_prints : (i : List ℕ) → Indent i → (arms : ArmTrees) → Lines (arms_text i arms) (arms_tokens arms)
  arms_prints i indent arms_end rest behind reads = reads
  arms_prints i indent (arms_more ls ss arms) rest behind reads =
      parted (line i (joined (codes ", ") label_text ls ++ codes ":") ++ stmts_text (deeper i) ss) (arms_text i arms) rest _
      (parted (line i (joined (codes ", ") label_text ls ++ codes ":")) (stmts_text (deeper i) ss) (arms_text i arms ++ rest) _
      (label_line i indent ls _ _ (stmts_prints (deeper i) (deep i indent) ss _ _ (arms_prints i indent arms rest behind reads))))
