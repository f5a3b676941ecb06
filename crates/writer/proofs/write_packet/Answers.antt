-- `write_packet` meets its contract: each section goes into the rest behind what is written. Assumes nothing.
use Prim.Native.Nat.{◌+◌, ◌-◌, ◌≤◌}
use mathlib.Core.Path.{◌≡◌, ◌∙◌}
use mathlib.Core.List.{◌++◌}
use native.Mathlib.Omega.{arith}
use lib.ListN.{length, length-append}
use borrow.Author.Rules.{rules}
use borrow.Rule.Slice.PartMut.{put_mid}
use Rattle.protocol.specs.Words.{value}
use Rattle.protocol.specs.Packet.{bytes_of, section, block_bytes, vote_bytes}
use Rattle.protocol.specs.Calls.Write.{over}
use Rattle.protocol.proofs.Packet.Numbers.{le-length}
use Rattle.writer.proofs.Positions.{three-behind, sets_over, lent-rest}
use Rattle.writer.proofs.Packet.{bs, vs, sent-sections, sent-room}
use Rattle.writer.proofs.write_packet.Goals as goal
use Rattle.writer.proofs.write_packet.Goals.{After-upper_bytes-upper}

-- what is written has room
room : (u : After-upper_bytes-upper) → let s = u.args.sent in let w = 8 + u.upper_bytes-upper.result in
    5 + w + length (section (block_bytes w) (bs s.proposal s.width s.blocks.words.now s.blocks.used s.votes.words.now s.votes.used s.readable))
    + length (section (vote_bytes w) (vs s.proposal s.width s.blocks.words.now s.blocks.used s.votes.words.now s.votes.used s.readable)) ≤ length u.args.buf.now
room u =
    let s = u.args.sent in
    omega (arith, u.requires.2, sent-room s.proposal s.width s.blocks.words.now s.blocks.used s.votes.words.now s.votes.used s.readable (8 + u.upper_bytes-upper.result) u.upper_bytes-upper.ensures.0)

pub put_word-requires : goal.put_word-requires
put_word-requires c = let h = room (goal.at.put_word-requires c).After-upper_bytes-upper in search rules

pub put_word-requires-2 : goal.put_word-requires-2
put_word-requires-2 c = let h = room (goal.at.put_word-requires-2 c).After-upper_bytes-upper in search rules

pub put_number-requires : goal.put_number-requires
put_number-requires c = let h = room (goal.at.put_number-requires c).After-upper_bytes-upper in search rules

pub slice_bounds-put_section-count : goal.slice_bounds-put_section-count
slice_bounds-put_section-count c = let h = room (goal.at.slice_bounds-put_section-count c).After-upper_bytes-upper in search rules

pub slice_bounds-put_section-start : goal.slice_bounds-put_section-start
slice_bounds-put_section-start c = let h = room (goal.at.slice_bounds-put_section-start c).After-upper_bytes-upper in search rules

pub put_section-size-requires : goal.put_section-size-requires
put_section-size-requires c = let h = room (goal.at.put_section-size-requires c).After-upper_bytes-upper in search rules

pub overflow_add-at : goal.overflow_add-at
overflow_add-at c = omega (arith, room (goal.at.overflow_add-at c).After-upper_bytes-upper, c.put_section-size.ensures.0)

pub slice_bounds-put_section-count-2 : goal.slice_bounds-put_section-count-2
slice_bounds-put_section-count-2 c =
    let h = room (goal.at.slice_bounds-put_section-count-2 c).After-upper_bytes-upper in
    let size = c.put_section-size.ensures.0 in
    search rules

pub slice_bounds-put_section-start-2 : goal.slice_bounds-put_section-start-2
slice_bounds-put_section-start-2 c =
    let h = room (goal.at.slice_bounds-put_section-start-2 c).After-upper_bytes-upper in
    let size = c.put_section-size.ensures.0 in
    search rules

pub put_section-requires : goal.put_section-requires
put_section-requires c =
    let h = room (goal.at.put_section-requires c).After-upper_bytes-upper in
    let size = c.put_section-size.ensures.0 in
    search rules

pub returns : goal.returns
returns c =
    let a = c.args in
    let s = a.sent in
    let n = c.upper_bytes-upper.result in
    let w = 8 + n in
    let head = bytes_of 1 c.kind_of.result ++ (bytes_of 4 a.slot ++ bytes_of w (value a.number)) in
    let blocks = section (block_bytes w) (bs s.proposal s.width s.blocks.words.now s.blocks.used s.votes.words.now s.votes.used s.readable) in
    let votes = section (vote_bytes w) (vs s.proposal s.width s.blocks.words.now s.blocks.used s.votes.words.now s.votes.used s.readable) in
    let us = c.put_number.new.buf in
    let size = c.put_section-size.ensures.0 in
    let front-size : length head ≡ 13 + n = simp (length-append, le-length) (omega arith) in
    let written = three-behind 1 4 0 (bytes_of 1 c.kind_of.result) (bytes_of 4 a.slot) (bytes_of w (value a.number)) a.buf.now c.put_word.new.buf c.put_word-2.new.buf us (le-length 1 _) (le-length 4 _)
    c.put_word.ensures c.put_word-2.ensures c.put_number.ensures in
    let first = written ∙ sets_over a.buf.now head (omega (arith, front-size, room (goal.at.returns c).After-upper_bytes-upper)) in
    let middle : put_mid (13 + n) (length us - (13 + n)) us c.put_section-size.new.buf ≡ over (head ++ blocks) a.buf.now = lent-rest head blocks a.buf.now us c.put_section-size.new.buf (13 + n) front-size first c.put_section-size.ensures.1 in
    let at : length (head ++ blocks) ≡ 13 + n + c.put_section-size.result = length-append head blocks ∙ omega (arith, front-size, size) in
    rw (sent-sections s.proposal s.width s.blocks.words.now s.blocks.used s.votes.words.now s.votes.used s.readable w c.upper_bytes-upper.ensures.0 c.kind_of.result a.slot (value a.number) c.kind_of.ensures c.requires.0 c.requires.1)
    (lent-rest (head ++ blocks) votes a.buf.now _ c.put_section.new.buf (13 + n + c.put_section-size.result) at middle c.put_section.ensures.1)
