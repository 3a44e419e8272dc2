-- `office_serve::claims::take_claim` meets its contract: 11, 17, 3, or the claim is entered. Assumes nothing.
use Prim.Native.Nat.{◌<◌}
use native.Mathlib.Omega.{arith}
use lib.ListN.{length}
use borrow.Author.Rules.{rules}
use Rattle.office_serve.proofs.ClaimServed.{claim_11, stored, claim_17, claim_3, add_ready, claim_in_lem}
use Rattle.office_serve.proofs.claims.take_claim.Goals as goal

pub returns-then-not-is_ours : goal.returns-then-not-is_ours
returns-then-not-is_ours c =
    let r = c.requires in
    claim_11 _ _ r.serving.ready r.range _ c.header_for-header.ensures _ c.is_ours.ensures _ _ c.if-not-is_ours.true _ _ c.refuse.ensures

pub is_known-requires : goal.is_known-requires
is_known-requires c =
    let r = c.requires in
    stored _ c.args.c r.serving.ready r.range _ c.header_for-header.ensures _ c.is_ours.ensures c.args.out.now c.args.at

pub returns-then-is_known : goal.returns-then-is_known
returns-then-is_known c =
    let r = c.requires in
    claim_17 _ _ r.serving.ready r.range _ c.header_for-header.ensures _ c.is_ours.ensures _ _ c.if-not-is_ours.false _ c.is_known.ensures
    c.if-is_known.true _ _ c.refuse-then-is_known.ensures

pub returns-then-header : goal.returns-then-header
returns-then-header c =
    let r = c.requires in
    claim_3 _ _ r.serving.ready r.range _ c.header_for-header.ensures _ c.is_ours.ensures _ _ c.if-not-is_ours.false _ c.is_known.ensures
    c.if-is_known.false c.if-header.true _ _ c.refuse-then-header.ensures

pub add-requires : goal.add-requires
add-requires c =
    let r = c.requires in
    let eight : 7 < length c.args.c.coordinates = search rules in
    add_ready _ _ r.serving.ready r.range _ c.header_for-header.ensures _ c.is_ours.ensures c.args.out.now c.args.at c.if-not-is_ours.false _ c.is_known.ensures
    c.if-is_known.false c.if-header.false eight

pub returns : goal.returns
returns c =
    let r = c.requires in
    let eight : 7 < length c.args.c.coordinates = search rules in
    claim_in_lem _ _ r.serving.ready r.range _ c.header_for-header.ensures _ c.is_ours.ensures _ _ c.if-not-is_ours.false _ c.is_known.ensures
    c.if-is_known.false c.if-header.false eight _ c.add.ensures (omega (arith, r.serving.room))
