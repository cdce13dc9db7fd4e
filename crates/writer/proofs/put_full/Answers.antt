-- `writer::put_full` meets its contract: too short a buffer, or one with room.
-- Assumes nothing.
use mathlib.Core.Path.{◌≡◌, sym, ◌∙◌}
use Prim.Native.Nat.{◌+◌}
use native.Mathlib.Omega.{arith}
use lib.ListN.{length}
use mir.Syntax.{w64}
use mir.Val.{to_z, of_z}
use mir.Facts.{to_z-of_z}
use Rattle.whole.specs.Floor.{fold}
use Rattle.writer.specs.inner.Lengths.{head_length}
use Rattle.writer.specs.Text.{head_text, block_text, full_text}
use Rattle.writer.proofs.Stores.{head_length_lem, block_length, full_length, parts_stored, short, long}
use Rattle.writer.proofs.put_full.Goals as goal
use Rattle.writer.proofs.put_full.Goals.{After-fold_of-p, After-head_length-head, After-struct_told-1}

-- the signed fields are read back
zone_back : (c : After-struct_told-1) → to_z w64 (of_z w64 c.args.parts.zone) ≡ c.args.parts.zone
zone_back c = to_z-of_z {w = w64} {z = c.args.parts.zone} (record { sfits = c.struct_told-1.given.0.1 })

head_is : (c : After-head_length-head) → c.head_length-head.result ≡ head_length c.args.parts.zone
head_is c = rw (zone_back (goal.at.After-head_length-head c).After-struct_told-1) at c.head_length-head.ensures

p_is : (c : After-fold_of-p) → c.fold_of-p.result ≡ fold c.args.parts.p
p_is c =
    let e = to_z-of_z {w = w64} {z = c.args.parts.p} (record { sfits = c.struct_told-2-1.given.1.1.1.1.0.1 }) in
    rw e at c.fold_of-p.ensures

size : (c : After-fold_of-p) → c.head_length-head.result + 2 + c.fold_of-p.result + c.fold_of-p.result ≡ length (full_text c.args.parts)
size c = rw (head_is (goal.at.After-fold_of-p c).After-head_length-head, p_is c) (sym (full_length c.args.parts))

pub returns-then-fits : goal.returns-then-fits
unfolding full_text
returns-then-fits c =
    let h = head_is (goal.at.returns-then-fits c).After-head_length-head in
    let p = p_is (goal.at.returns-then-fits c).After-fold_of-p in
    let e = rw (zone_back (goal.at.returns-then-fits c).After-struct_told-1) at c.put_head.ensures in
    let made = parts_stored (head_text c.args.parts.zone c.args.parts.band) (block_text c.args.parts) c.args.out.now _ _ (h ∙ sym (head_length_lem _ _)) (rw block_length (omega arith)) in
    long (full_text c.args.parts) c.args.out.now _ (size (goal.at.returns-then-fits c).After-fold_of-p) c.if-fits.true _ (rw (e, c.put_block.ensures) made)

pub returns : goal.returns
returns c =
    short (full_text c.args.parts) c.args.out.now _ (size (goal.at.returns c).After-fold_of-p) c.if-fits.false
