use Rattle.std.proofs.Common.{◌≡◌, ℕ, List, length, Some, vec_items, vec_len, Result, sym, refl, ap, ◌∙◌, subst, arith}
use Rattle.std.proofs.lemmas.List.{with_items_is}
use Rattle.sources.specs.declared.answers.Answer.{Answer}
use Rattle.sources.specs.declared.answers.Refusal.{Refusal}
use Rattle.sources.specs.declared.answers.Told.{Told}
use Rattle.sources.specs.Replies.{reply_of, Lawful}
use Rattle.piles.proofs.requests.make.Goals as goal

pub returns : goal.returns
returns g c =
    let m = g.S.Source.meaning (g.S.Source.kept c.args.pile.now) in
    let v = c.args.request.now.buffer in
    let grant = c.args.request.now.grant in
    let e = c.next-reply.ensures in
    let old = c.as_mut_slice.ensures.value in
    let size : length c.next-reply.new.buffer ≡ vec_len v = omega (arith, c.next-reply.auto.buffer, c.as_mut_slice.ensures.len) in
    let new = with_items_is v c.next-reply.new.buffer size in
    let answer : c.next-reply.result ≡ (reply_of m (vec_items v) grant).answer = e.replies.answer ∙ ap (λ b. (reply_of m b grant).answer) old in
    let P : List ℕ → Type 0 = λ b. Lawful (reply_of m (vec_items v) grant).answer b in
    let Q : Result (Answer (Told ℕ)) Refusal → Type 0 = λ r. Lawful r c.next-reply.new.buffer in
    record {
      served = record {
        grant = refl;
        reply = ap Some answer;
        buffer = new ∙ e.replies.buffer ∙ ap (λ b. (reply_of m b grant).buffer) old;
        lawful = subst P (sym new) (subst Q answer e.lawful);
      };
      reached = e.reached;
    }
