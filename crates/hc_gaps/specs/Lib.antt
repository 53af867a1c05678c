pub mod Against
pub mod Contents
pub mod Demanding
pub mod Differing
pub mod Firsts
pub mod Forms
pub mod Selecting
