use Rattle.std.proofs.Common.{◌≡◌, ◌∙◌, codes}
use Rattle.ixp_lang_tokens.specs.Grammars.{sequence, choice}
use Rattle.ixp_lang_tokens.specs.Pieces.{the_word}
use Rattle.ixp_lang_tokens.specs.Reading.{kinds, ◌>>=◌}
use Rattle.ixp_lang_exprs.specs.Names.{names_of}
use Rattle.ixp_lang_protocols.specs.Protocols.{device_end, pipe_end, bgp_end}
use Rattle.ixp_lang_protocols.proofs.Words.{word_next, other_next}
use Rattle.ixp_lang_protocols.proofs.protocol.protocol_at.Goals as goal

pub returns-in-Some-clause-reads : goal.returns-in-Some-clause-reads
returns-in-Some-clause-reads c =
    let names = names_of c.args.env.now in
    rw (word_next (codes "device") (λ tt. device_end names) (choice (sequence (the_word (codes "pipe")) (λ tt. pipe_end names)) (sequence (the_word (codes "bgp")) (λ tt. bgp_end names)))
    (kinds c.args.tokens.now) (kinds c.in-Some.rest.now) c.in-Some.ensures.reads)
    c.device_at.ensures.reads

pub returns-in-Some-after_word-clause-reads : goal.returns-in-Some-after_word-clause-reads
returns-in-Some-after_word-clause-reads c =
    let names = names_of c.args.env.now in
    rw (
      other_next (codes "device") (λ tt. device_end names) (choice (sequence (the_word (codes "pipe")) (λ tt. pipe_end names)) (sequence (the_word (codes "bgp")) (λ tt. bgp_end names)))
          (kinds c.args.tokens.now) c.in_default.ensures.reads,
      word_next (codes "pipe") (λ tt. pipe_end names) (sequence (the_word (codes "bgp")) (λ tt. bgp_end names)) (kinds c.args.tokens.now) (kinds c.in-Some-after_word.rest.now) c.in-Some-after_word.ensures.reads,
    )
    c.pipe_at.ensures.reads

pub returns-clause-reads : goal.returns-clause-reads
returns-clause-reads c =
    let names = names_of c.args.env.now in
    rw (
      other_next (codes "device") (λ tt. device_end names) (choice (sequence (the_word (codes "pipe")) (λ tt. pipe_end names)) (sequence (the_word (codes "bgp")) (λ tt. bgp_end names)))
          (kinds c.args.tokens.now) c.in_default.ensures.reads,
      other_next (codes "pipe") (λ tt. pipe_end names) (sequence (the_word (codes "bgp")) (λ tt. bgp_end names)) (kinds c.args.tokens.now) c.in_default-after_word.ensures.reads,
      c.in_ok-rest.ensures.reads,
    )
    c.bgp_at.ensures.reads
