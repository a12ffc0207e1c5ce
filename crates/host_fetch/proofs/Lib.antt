pub mod Asking
pub mod Failing
pub mod Loop
pub mod Hearing
pub mod Firsts
