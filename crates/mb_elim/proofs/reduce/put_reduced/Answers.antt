use Rattle.std.proofs.Common.{◌∙◌, ap, length}
use Rattle.mb_elim.proofs.Reducing.{put_left, put_mask}
use Rattle.mb_elim.proofs.reduce.put_reduced.Goals as goal

pub returns-clause-left : goal.returns-clause-left
returns-clause-left c = λ k p q. put_left k _ c.args.row.now c.args.rows.now c.split_at_mut-earlier.result.0.now c.reduce_noting.new.sum _ c.args.pivots.now p
    c.split_at_mut-earlier.ensures.front_len (c.reduce_noting.ensures.words ∙ ap length c.copy_from_slice.ensures.after)
    (λ j r. c.split_at_mut-earlier.ensures.by_index.0 j 0 r) ((rw c.copy_from_slice.ensures.after at (c.reduce_noting.ensures.left k)) p q)

pub returns-clause-mask : goal.returns-clause-mask
returns-clause-mask c = λ k p q. put_mask k _ c.args.start c.args.row.now c.args.rows.now c.split_at_mut-earlier.result.0.now c.args.pivots.now _ p
    (λ j r. c.split_at_mut-earlier.ensures.by_index.0 j 0 r) ((rw c.copy_from_slice.ensures.after at (c.reduce_noting.ensures.mask k)) p q)
